-- The message that a complete receiver hands over: the data of the accepted segments, 0 to the end in order, in the first octets of the output.
use Prim.Native.Nat.{ℕ, zero, suc, ◌+◌, ◌-◌, ◌≤◌, ◌<◌, min}
use Rattle.std.specs.Prelude.{◌≡◌, Bool, true, false, ◌||◌, length, get_or, take, eqb, Option, Some, None}
use Rattle.std.proofs.Math.Path.{refl, ap₂}
use Rattle.std.proofs.Common.{sym, ap, ◌∙◌, arith, eqb-true}
use mathlib.Core.List.{List, ◌++◌}
use Rattle.std.proofs.Math.ListN.{length-append}
use Rattle.std.proofs.lemmas.List.Edits.{sets}
use Rattle.std.proofs.lemmas.Bool.{eqb-false, not-false}
use Rattle.octets.specs.Laws.{front_sets}
use Rattle.words.specs.Marks.{marked}
use Rattle.words.specs.Search.{all_below_true}
use Rattle.words.specs.declared.Words.{Words}
use Rattle.tsar.specs.Layout.{WholeSegment}
use Rattle.tsar.specs.Kinds.{states_other}
use Rattle.receiver.specs.declared.Slot.{Slot}
use Rattle.receiver.specs.Record.{part, held_length, sum_to, joined, full_with, store_octets}
use Rattle.receiver.specs.Answers.{last_entry}
use Rattle.delivery.specs.Calls.{find, data_of, data_to, HandOver, OfAccepted}
use Rattle.delivery.specs.Lists.{never, sum_to_past, sum_to_most, holding, marked_here, marked_other}
use Rattle.delivery.specs.Body.{Body, Holds, held_found, free_absent}

-- slots that are full up to e, counting q as held, are full once q is held
pub full_after : (held : Words) (q e : ℕ) → e < 256 → full_with held q (Some e) ≡ true → (s : ℕ) → s < suc e → marked (holding held q) s ≡ true
full_after held q e h f s l = go (eqb s q) refl (all_below_true (suc e) (λ t. eqb t q || marked held t) f s l)
  where
    go : (b : Bool) → eqb s q ≡ b → (b || marked held s) ≡ true → marked (holding held q) s ≡ true
    go true p k = let z : s ≡ q = eqb-true s q p in rw z (marked_here held q (omega arith))
    go false p k = marked_other held q s (omega arith) (eqb-false s q p) ∙ k

module _ (held : Words) (lengths : List ℕ) (slots : List Slot) (store : List ℕ) where
  -- a slot counts the octets of what was accepted for it
  pub octets_of : (s : ℕ) (o : Option WholeSegment) → Holds held lengths slots store s o → held_length held lengths s ≡ length (data_of o)
  octets_of s None h = rw h
  octets_of s (Some x) h = rw h.0 h.2

  -- a held slot's octets are the data of what was accepted for it
  part_is : (s : ℕ) (o : Option WholeSegment) → Holds held lengths slots store s o → marked held s ≡ true → part store s (get_or lengths s 0) ≡ data_of o
  part_is s None h e = never _ h e
  part_is s (Some x) h e = ap (part store s) h.2 ∙ h.3

  module _ (acc : List WholeSegment) (holds : (s : ℕ) → s < 256 → Holds held lengths slots store s (find s acc)) where
    -- full slots joined are the data accepted
    pub joined_is : (n : ℕ) → n ≤ 256 → ((s : ℕ) → s < n → marked held s ≡ true) → joined lengths store n ≡ data_to acc n
    unfolding joined data_to
    joined_is zero h f = refl
    joined_is (suc n) h f =
        ap₂ {C = List ℕ} ◌++◌ (joined_is n (omega arith) (λ s k. f s (omega arith)))
        (part_is n (find n acc) (holds n (omega arith)) (f n (omega arith)))

    -- and are as many as the slots count
    pub length_is : (n : ℕ) → n ≤ 256 → length (data_to acc n) ≡ sum_to n (held_length held lengths)
    unfolding sum_to data_to
    length_is zero h = refl
    length_is (suc n) h =
        length-append (data_to acc n) (data_of (find n acc))
        ∙ ap₂ ◌+◌ (length_is n (omega arith)) (sym (octets_of n (find n acc) (holds n (omega arith))))

-- no slot counts more than 255 octets
pub octets_small : {m : ℕ} {held : Words} {lengths : List ℕ} {slots : List Slot} {end_sequence : Option ℕ} {stated : Option ℕ} {count : ℕ} {store : List ℕ} {acc : List WholeSegment}
    → Body m held lengths slots end_sequence stated count store acc → (s : ℕ) → s < 256 → held_length held lengths s ≤ 255
octets_small {held = held} {lengths = lengths} {slots = slots} {store = store} {acc = acc} B s h =
    rw (octets_of held lengths slots store s (find s acc) (B.holds s h)) (go (find s acc) refl)
  where
    go : (o : Option WholeSegment) → find s acc ≡ o → length (data_of o) ≤ 255
    go None e = omega arith
    go (Some x) e = B.small s x e

module _ {m : ℕ} {held : Words} {lengths : List ℕ} {slots : List Slot} {end_sequence : Option ℕ} {stated : Option ℕ} {count : ℕ} {store : List ℕ} {acc : List WholeSegment}
    (B : Body m held lengths slots end_sequence stated count store acc) (e : ℕ) (p : end_sequence ≡ Some e) (full : (s : ℕ) → s < suc e → marked held s ≡ true)
    (right : states_other stated count ≡ false) (out : List ℕ) (room : min m store_octets ≤ length out) where
  -- what finishes joins
  abbrev message : List ℕ
  message = joined lengths store (suc (last_entry false held end_sequence))

  -- what it hands over
  abbrev hand_over : HandOver
  hand_over = record { count = length message; message = take (length message) (sets out 0 message); accepted = acc }

  -- the end is below 256
  in_range : e < 256
  in_range = (B.ended e p).0

  -- the slots joined are the data accepted
  is_data : message ≡ data_to acc (suc e)
  is_data = ap (λ (z : Option ℕ). joined lengths store (suc (last_entry false held z))) p ∙ joined_is held lengths slots store acc B.holds (suc e) in_range full

  -- nothing past the end counts
  past : sum_to 256 (held_length held lengths) ≡ sum_to (suc e) (held_length held lengths)
  past =
      let k : suc e + (255 - e) ≡ 256 = omega (arith, in_range) in
      ap (λ (n : ℕ). sum_to n (held_length held lengths)) (sym k)
      ∙ sum_to_past (255 - e) (suc e) (held_length held lengths) (λ i l u. rw (B.within e p i l (omega arith)))

  -- the message is as long as the count
  counted : length message ≡ count
  counted = ap length is_data ∙ length_is held lengths slots store acc B.holds (suc e) in_range ∙ sym past ∙ B.sums

  -- and fits the output
  fits : length message ≤ length out
  fits =
      let most = sum_to_most 256 255 (held_length held lengths) (octets_small B) in
      omega (arith, counted, B.sums, B.bounded, room)

  -- so the first octets of the output are the message
  is_message : hand_over.message ≡ message
  is_message = front_sets out message fits

  -- nothing past the end was accepted
  none_past : (s : ℕ) → e < s → find s acc ≡ None
  none_past s l = go (find s acc) refl
    where
      go : (f : Option WholeSegment) → find s acc ≡ f → find s acc ≡ None
      go None q = q
      go (Some x) q =
          let h = B.in_range s x q in
          free_absent held lengths slots store s (find s acc) (B.holds s h) (B.within e p s l h)

  -- what is handed over is the data of the accepted segments, as long as every length they state
  pub of_accepted : OfAccepted hand_over
  of_accepted = record {
    end = e;
    last = (B.ended e p).1.last;
    end_accepted = (B.ended e p).1.found;
    is_end_lem = (B.ended e p).1.is_end_lem;
    all_accepted = λ s h. held_found held lengths slots store s (find s acc) (B.holds s (omega (arith, in_range))) (full s (omega arith));
    none_past = none_past;
    message_is = is_message ∙ is_data;
    long_as_counted = ap length is_message;
    long_as_all = ap length is_message ∙ counted ∙ sym B.counts;
    long_as_stated = λ s x f n q. ap length is_message ∙ counted ∙ sym (eqb-true n count (not-false _ (rw (B.stating s x f n q) at right)));
  }
