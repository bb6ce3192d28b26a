-- What a state that isn't impossible says of the slots and of the count: a held slot has at most 255 octets; the count is at most 65,280, so a
-- segment more fits. Assumes nothing.
use mathlib.Core.Path.{◌≡◌, refl}
use mathlib.Core.Bool.{true, false}
use Prim.Native.Nat.{ℕ, ◌≤◌, ◌<◌}
use native.Mathlib.Omega.{arith}
use borrow.Author.Tests.{leb-true, eqb-true, not-false}
use lib.Dec.{leb}
use Rattle.words.specs.Search.{all_below_true}
use Rattle.tsar.specs.Rows.{any_none}
use Rattle.receiver.specs.Record.{held_length, sum_to, faults, impossible, is_held, length_at}
use Rattle.receiver.specs.declared.Receiver.{Receiver}
use Rattle.receiver.proofs.HeldSums.{sum_bound}

-- no slot counts for more than 255 octets
each_short : (r : Receiver) (t : ℕ) → impossible r ≡ false → t < 256 → held_length r.held r.lengths t ≤ 255
unfolding impossible
each_short r t h l =
    let f = held_length r.held r.lengths in
    leb-true (f t) 255 (all_below_true 256 (λ t. leb (f t) 255) (not-false _ (any_none (faults r) h 0)) t l)

pub held_short : (r : Receiver) (s : ℕ) → impossible r ≡ false → s < 256 → is_held r s ≡ true → length_at r s ≤ 255
held_short r s h l e =
    let is : held_length r.held r.lengths s ≡ length_at r s = rw e refl in
    omega (arith, each_short r s h l, is)

pub count_small : (r : Receiver) → impossible r ≡ false → r.progress.stored_octets ≤ 65280
unfolding impossible
count_small r h =
    let f = held_length r.held r.lengths in
    let sums : r.progress.stored_octets ≡ sum_to 256 f = eqb-true _ _ (not-false _ (any_none (faults r) h 1)) in
    omega (arith, sums, sum_bound 256 255 f (λ t l. each_short r t h l))
