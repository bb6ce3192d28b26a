-- A delivery of a segment that is held already: it is a repeat of it, and what holds after the calls stays.
use Rattle.std.specs.Prelude.{ℕ, ◌<◌, ◌≡◌, refl, List, ◌∷◌, Bool, true, false, not, ◌&&◌, length, eqb}
use Rattle.std.proofs.Common.{sym, ap, ◌∙◌, subst, inl, inr, arith, eq-eqb}
use Rattle.std.proofs.Math.Bool.{and-false}
use Rattle.octets.specs.Octets.{same_octets, same_eq}
use Rattle.tsar.specs.Layout.{WholeSegment}
use Rattle.receiver.specs.declared.Receiver.{Receiver}
use Rattle.receiver.specs.Record.{is_held, kind_at, length_at, part}
use Rattle.receiver.specs.Receive.{Arrival, sequence, kind, same_kind, repeats, settle}
use Rattle.delivery.specs.Calls.{receive, find, absent, HoldsAt}
use Rattle.delivery.specs.Delivery.{HasCome}
use Rattle.delivery.specs.Lists.{never, present}
use Rattle.delivery.specs.Same.{same_kind_lem}
use Rattle.delivery.specs.Train.{Train}
use Rattle.delivery.specs.Progress.{Phase, waiting, going, done}
use Rattle.delivery.specs.ProgressPasses.{Arrived, Next}
use Rattle.delivery.proofs.ProgressPasses.{number, number_small, slot_holds, held_accepted}

-- the slot's record and octets are what the receive brings
record Like (r : Receiver) (store : List ℕ) (a : Arrival) : Type 0 where
  kind_is : kind_at r (sequence a) ≡ kind a
  length_is : length_at r (sequence a) ≡ length a.octets
  data_are : part store (sequence a) (length a.octets) ≡ a.octets

module _ (T : Train) (C : Arrived T) where
  abbrev r : Receiver
  r = C.w.receiver

  abbrev a : Arrival
  a = C.a

  abbrev acc : List WholeSegment
  acc = C.w.accepted

  -- it was accepted
  there : is_held r (sequence a) ≡ true → absent (find (sequence a) acc) ≡ false
  there held = held_accepted T C (sequence a) (number_small T C) held

  -- what the slot holds is what was accepted, and so what comes again
  like : is_held r (sequence a) ≡ true → Like r C.w.store a
  like held =
      let y = present (find (sequence a) acc) (there held) in
      let h = subst (HoldsAt r C.w.store (sequence a)) y.1 (slot_holds T C (sequence a) (number_small T C)) in
      let b = (C.holding.has (sequence a) y.0 y.1).1 in
      let k : y.0.kind ≡ kind a = b.same_kind_lem ∙ ap (λ (n : ℕ). (T.segment n).kind) (number T C) ∙ sym C.meets.brings.same_kind_lem in
      let d : y.0.segment_data ≡ a.octets = b.same_data ∙ ap (λ (n : ℕ). (T.segment n).segment_data) (number T C) ∙ sym C.meets.brings.same_data in
      record {
        kind_is = h.1 ∙ k;
        length_is = h.2 ∙ ap length d;
        data_are = subst (λ (l : List ℕ). part C.w.store (sequence a) (length l) ≡ l) d h.3;
      }

  -- it does not differ in data length
  pub no_other_length : (is_held r (sequence a) && not (eqb (length_at r (sequence a)) (length a.octets))) ≡ false
  no_other_length = go (is_held r (sequence a)) refl
    where
      go : (b : Bool) → is_held r (sequence a) ≡ b → (b && not (eqb (length_at r (sequence a)) (length a.octets))) ≡ false
      go true e = ap not (eq-eqb _ _ (like e).length_is)
      go false e = refl

  -- nor in kind or data
  pub no_other_content : (is_held r (sequence a) && not (same_kind (kind_at r (sequence a)) (kind a) && same_octets (part C.w.store (sequence a) (length a.octets)) a.octets)) ≡ false
  no_other_content = go (is_held r (sequence a)) refl
    where
      go : (b : Bool) → is_held r (sequence a) ≡ b
          → (b && not (same_kind (kind_at r (sequence a)) (kind a) && same_octets (part C.w.store (sequence a) (length a.octets)) a.octets)) ≡ false
      go true e = rw (same_kind_lem (kind_at r (sequence a)) (kind a) (like e).kind_is, same_eq (part C.w.store (sequence a) (length a.octets)) a.octets (like e).data_are)
      go false e = refl

  module _ (held : is_held r (sequence a) ≡ true) where
    -- what has come was accepted already
    came : (s : ℕ) → s < T.count → HasCome (T.segment s) (receive a C.out ∷ C.calls) → absent (find s acc) ≡ false
    came s h (inl b) = subst (λ (n : ℕ). absent (find n acc) ≡ false) (b.same_sequence ∙ T.cutting.numbered s h) (there held)
    came s h (inr c) = C.holding.seen s h c

    -- the phase stays
    still : Phase T r.progress.state acc C.w.handed C.calls → Phase T r.progress.state acc C.w.handed (receive a C.out ∷ C.calls)
    still (waiting e f g d) = never _ (there held) (ap (λ (l : List WholeSegment). absent (find (sequence a) l)) f)
    still (going e f j l g) = going e f j l g
    still (done e f n m g) = done e f n m g

    -- a repeat moves the deadline and the reading, and nothing else
    pub again : Next T C (settle T.interval repeats r a C.w.store C.out)
    again = simp (there held, and-false) (record {
      terms_are = C.holding.terms_are;
      read_by = omega arith;
      set_by = λ e. record { at = a.reading; delivered = refl; set = rw e };
      off = λ e. rw e (C.holding.off e);
      room = C.holding.room;
      has = C.holding.has;
      seen = came;
      shown = λ s x f. inr (C.holding.shown s x f);
      counted = C.holding.counted;
      agrees = C.holding.agrees;
      no_end = C.holding.no_end;
      at_end = C.holding.at_end;
      phase = still C.holding.phase;
    })
