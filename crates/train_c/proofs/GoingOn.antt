-- Going on by lengths and octets: what is left of both behind the first k segments are the segments behind them, for any lengths (an odd last
-- octet too), octets and k. Assumes nothing.
use mathlib.Core.Path.{◌≡◌, refl, sym, ap, ap₂, ◌∙◌}
use mathlib.Core.List.{List}
use Prim.Native.Nat.{ℕ, zero, suc, ◌+◌, ◌-◌, ◌*◌, ◌/◌}
use native.Mathlib.Omega.{arith}
use lib.ListN.{length, drop, length-drop}
use lib.Seq.{drop-drop}
use Rattle.image.specs.Numbers.{number_of}
use Rattle.train_c.specs.Walk.{segments_of, start_of, train_of}
use Rattle.train_c.specs.Singly.{steps_of, given, lengths_sum, Behind, GoesOn}
use Rattle.train_c.proofs.LosesNothing.{loses_nothing}

-- behind the first segment
tail_is : (n : ℕ) (lengths octets : List ℕ) → drop 1 (segments_of n lengths octets) ≡ segments_of (n - 1) (drop 2 lengths) (drop (number_of 2 lengths) octets)
unfolding segments_of
tail_is zero lengths octets = refl
tail_is (suc n) lengths octets =
    let e : n ≡ suc n - 1 = omega arith in
    ap (λ (k : ℕ). segments_of k (drop 2 lengths) (drop (number_of 2 lengths) octets)) e

-- taking 2 octets away takes 1 from their number of pairs
pairs : (l : List ℕ) → length (drop 2 l) / 2 ≡ length l / 2 - 1
pairs l = omega (arith, length-drop 2 l)

given_tail : (lengths octets : List ℕ) → given (drop 2 lengths) (drop (number_of 2 lengths) octets) ≡ drop 1 (given lengths octets)
given_tail lengths octets =
    ap (λ (n : ℕ). segments_of n (drop 2 lengths) (drop (number_of 2 lengths) octets)) (pairs lengths) ∙ sym (tail_is (length lengths / 2) lengths octets)

pub behind : Behind
unfolding lengths_sum
behind zero lengths octets = refl
behind (suc k) lengths octets =
    let n : ℕ = number_of 2 lengths in
    let one : 1 + k ≡ suc k = omega arith in
    let two : 2 + 2 * k ≡ 2 * suc k = omega arith in
    let a : drop (2 * suc k) lengths ≡ drop (2 * k) (drop 2 lengths) = sym (drop-drop (2 * k) 2 lengths ∙ ap (λ (x : ℕ). drop x lengths) two) in
    let b : drop (n + lengths_sum k (drop 2 lengths)) octets ≡ drop (lengths_sum k (drop 2 lengths)) (drop n octets) = sym (drop-drop (lengths_sum k (drop 2 lengths)) n octets) in
    ap₂ given a b ∙ behind k (drop 2 lengths) (drop n octets) ∙ ap (drop k) (given_tail lengths octets)
    ∙ drop-drop k 1 (given lengths octets) ∙ ap (λ (x : ℕ). drop x (given lengths octets)) one

pub goes_on : GoesOn
goes_on peer protocol reading lengths octets r store output z =
    let t = train_of peer protocol reading (given lengths octets) (start_of r store output) in
    ap (λ (l : List (List ℕ)). steps_of peer protocol reading l t.receiver t.store t.output) (behind t.received lengths octets)
    ∙ (loses_nothing peer protocol reading (given lengths octets) r store output).1.onward z
