-- Document 02, 2026-03, of the receiver's own comparison, for any segment that receive does not refuse: a repeat of another length is not
-- compared, nor is a segment of another kind or for a slot that isn't held; a repeat as long is looked at up to and with the first octet that
-- differs from the slot's own, all of it where none does. Any segment is in one of these cases, so the laws leave no other figure. Assumes nothing.
use mathlib.Core.Path.{◌≡◌, refl, sym, ap, ◌∙◌}
use mathlib.Core.Bool.{Bool, true, false, cond, ◌&&◌}
use Rattle.std.specs.Prelude.{None}
use mathlib.Core.List.{List}
use Prim.Native.Nat.{ℕ, suc, ◌*◌, ◌≤◌, ◌<◌}
use native.Mathlib.Omega.{arith}
use borrow.Author.Tests.{ltb-false}
use lib.ListN.{length, get_or, take, drop, length-drop}
use lib.Seq.{length-take-le}
use Rattle.octets.specs.Octets.{same_eq, same_ne}
use Rattle.octets.specs.Compare.{compared_of}
use Rattle.octets.specs.declared.Compared.{Compared}
use Rattle.octets.proofs.Looked.{looked_none, looked_same, looked_other}
use Rattle.tsar.specs.Rows.{refusal, refusal_none}
use Rattle.receiver.specs.declared.Receiver.{Receiver}
use Rattle.receiver.specs.Record.{is_held, kind_at, length_at, part, slot_octets, store_octets}
use Rattle.receiver.specs.Receive.{Arrival, sequence, kind, same_kind, receive_rows}
use Rattle.receiver.specs.Steps.{not_compared, repeat_found}
use Rattle.receiver.proofs.Possible.{held_short}

-- the octets that the segment's slot holds
abbrev own : Receiver → Arrival → List ℕ → List ℕ
own r a store = part store (sequence a) (length_at r (sequence a))

-- what the comparison of a segment with its slot finds
abbrev found : Receiver → Arrival → List ℕ → Compared
found r a store = repeat_found r (sequence a) (kind a) a.octets store

-- a slot that isn't held, or holds another kind: nothing is looked at
pub not_compared_lem : (r : Receiver) (a : Arrival) (store : List ℕ) → (is_held r (sequence a) && same_kind (kind_at r (sequence a)) (kind a)) ≡ false → found r a store ≡ not_compared
not_compared_lem r a store e = rw e refl

-- this very segment: all of it
pub very_segment : (r : Receiver) (a : Arrival) (store : List ℕ)
    → is_held r (sequence a) ≡ true → same_kind (kind_at r (sequence a)) (kind a) ≡ true → own r a store ≡ a.octets
    → found r a store ≡ record { same = true; looked = length a.octets }
very_segment r a store e k q =
    rw (e, k)
    (λ j. record {
      same = same_eq (own r a store) a.octets q j;
      looked = (looked_same (own r a store) a.octets q ∙ ap length q) j;
    })

module _ (interval : ℕ) (r : Receiver) (a : Arrival) (store out : List ℕ) (octet : sequence a < 256) (taken : refusal (receive_rows interval r a store out) ≡ None) where
  -- the octets of a held slot lie in the store: 60 and 62 were passed
  slot_whole : is_held r (sequence a) ≡ true → length (own r a store) ≡ length_at r (sequence a)
  slot_whole e =
      let passed = refusal_none (receive_rows interval r a store out) taken in
      let room : store_octets ≤ length store = ltb-false (length store) store_octets (passed 0) in
      let short = held_short r (sequence a) (passed 2) octet e in
      length-take-le (length_at r (sequence a)) (drop (slot_octets * sequence a) store) (rw length-drop (omega (arith, short, room)))

  -- a repeat of another length: nothing is looked at
  pub other_length : (length_at r (sequence a) ≡ length a.octets → ⊥) → found r a store ≡ not_compared
  other_length n = go (is_held r (sequence a)) refl (same_kind (kind_at r (sequence a)) (kind a))
    where
      go : (t : Bool) → is_held r (sequence a) ≡ t → (k : Bool) → cond (t && k) (compared_of (own r a store) a.octets) not_compared ≡ not_compared
      go false e k = refl
      go true e false = refl
      go true e true =
          let apart : length (own r a store) ≡ length a.octets → ⊥ = λ q. n (sym (slot_whole e) ∙ q) in
          λ i. record {
            same = same_ne (own r a store) a.octets (λ q. apart (ap length q)) i;
            looked = looked_none (own r a store) a.octets apart i;
          }

  -- one as long, of the slot's kind: up to and with the first octet that differs from the slot's
  pub other_octet : (i : ℕ)
      → is_held r (sequence a) ≡ true → same_kind (kind_at r (sequence a)) (kind a) ≡ true → length_at r (sequence a) ≡ length a.octets
      → i < length a.octets → take i (own r a store) ≡ take i a.octets → (get_or (own r a store) i 0 ≡ get_or a.octets i 0 → ⊥)
      → found r a store ≡ record { same = false; looked = suc i }
  other_octet i e k w b q n =
      let long : length (own r a store) ≡ length a.octets = slot_whole e ∙ w in
      rw (e, k)
      (λ j. record {
        same = same_ne (own r a store) a.octets (λ p. n (ap (λ (z : List ℕ). get_or z i 0) p)) j;
        looked = looked_other (own r a store) a.octets i long (omega (arith, long, b)) q n j;
      })
