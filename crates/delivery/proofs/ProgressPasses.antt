-- A delivery that meets the conditions is not refused: it passes receive's tests, the codec's among them, and it is not late.
use Rattle.std.specs.Prelude.{ℕ, ◌≤◌, ◌<◌, min, ◌≡◌, refl, List, Bool, true, false, not, ◌&&◌, length, Option, Some, None}
use Rattle.std.proofs.Common.{sym, ap, ◌∙◌, subst, arith, le-ltb, eq-eqb}
use Rattle.tsar.specs.Rows.{refusal, test, refusal_none, refusal_pass}
use Rattle.tsar.specs.Layout.{WholeSegment}
use Rattle.tsar.specs.Kinds.{is_begin}
use Rattle.tsar.specs.Writing.{codec_rows}
use Rattle.tsar.specs.declared.Segment.{Segment}
use Rattle.receiver.specs.declared.Terms.{Terms}
use Rattle.receiver.specs.declared.Receiver.{Receiver}
use Rattle.receiver.specs.Record.{taking, awaiting, late, store_octets, is_held}
use Rattle.receiver.specs.Receive.{Arrival, sequence, kind, receive_rows}
use Rattle.delivery.specs.Calls.{find, absent, brought, HoldsAt}
use Rattle.delivery.specs.Delivery.{last_delivery}
use Rattle.delivery.specs.Lists.{never, present}
use Rattle.delivery.specs.Same.{same_identity_lem, same_protocol_lem, not_late}
use Rattle.delivery.specs.Train.{Train, head_of, Is, first_begins}
use Rattle.delivery.proofs.ProgressReleased.{delivered_octet}
use Rattle.delivery.specs.Progress.{Phase, waiting, going, done}
use Rattle.delivery.proofs.Progress.{not_due}
use Rattle.delivery.specs.ProgressPasses.{Arrived}

-- one row's answer, and those of the rows behind it
infixr 20 ◌⨾◌
pub ◌⨾◌ : {P Q : Type 0} → P → Q → P × Q
p ⨾ q = (p, q)

module _ (T : Train) (C : Arrived T) where
  abbrev r : Receiver
  r = C.w.receiver

  abbrev a : Arrival
  a = C.a

  abbrev acc : List WholeSegment
  acc = C.w.accepted

  -- it is segment i of the train
  abbrev i : ℕ
  i = C.meets.index

  abbrev x : WholeSegment
  x = T.segment C.meets.index

  abbrev Here : Type 0
  Here = Phase T r.progress.state acc C.w.handed C.calls

  -- its number is the segment's
  pub number : sequence a ≡ i
  number = C.meets.brings.same_sequence ∙ T.cutting.numbered i C.meets.in_train

  -- an octet
  pub number_small : sequence a < 256
  number_small = delivered_octet T C.calls C.a C.out C.meets

  -- it is that segment
  pub brings_here : Is (T.segment i) (brought a)
  brings_here = record { same_kind_lem = C.meets.brings.same_kind_lem; same_data = C.meets.brings.same_data }

  -- ---- the slots

  -- each slot holds what was accepted for it
  pub slot_holds : (s : ℕ) → s < 256 → HoldsAt r C.w.store s (find s acc)
  slot_holds s h = go C.holding.phase
    where
      go : Here → HoldsAt r C.w.store s (find s acc)
      go (waiting e f g d) = subst (λ (l : List WholeSegment). HoldsAt r C.w.store s (find s l)) (sym f) (C.listed.holds_none (rw e) s h)
      go (going e f j l g) = C.listed.holds (rw e) s h
      go (done e f n m g) = C.listed.holds (rw e) s h

  -- a held slot has an accepted segment, one that isn't has none
  pub held_accepted : (s : ℕ) → s < 256 → is_held r s ≡ true → absent (find s acc) ≡ false
  held_accepted s h e = go (find s acc) (slot_holds s h)
    where
      go : (o : Option WholeSegment) → HoldsAt r C.w.store s o → absent o ≡ false
      go None p = never _ p e
      go (Some y) p = refl

  -- one that isn't held has none
  pub free_unaccepted : (s : ℕ) → s < 256 → is_held r s ≡ false → find s acc ≡ None
  free_unaccepted s h e = go (find s acc) (slot_holds s h)
    where
      go : (o : Option WholeSegment) → HoldsAt r C.w.store s o → o ≡ None
      go None p = refl
      go (Some y) p = never _ e p.0

  -- a held slot is one of the train's
  pub held_in : (s : ℕ) → s < 256 → is_held r s ≡ true → s < T.count
  held_in s h e = let y = present (find s acc) (held_accepted s h e) in (C.holding.has s y.0 y.1).0

  -- ---- the tests

  -- the state takes segments
  takes : taking r.progress.state ≡ true
  takes = go C.holding.phase
    where
      go : Here → taking r.progress.state ≡ true
      go (waiting e f g d) = rw e
      go (going e f j l g) = rw e
      go (done e f n m g) = rw e

  -- the output is long enough
  long_enough : min r.terms.maximum_message_octets store_octets ≤ length C.out
  long_enough = rw C.holding.terms_are C.meets.long_enough

  -- while the Begin is awaited nothing was delivered
  none_yet : Here → awaiting r.progress.state ≡ true → last_delivery C.calls ≡ None
  none_yet (waiting e f g d) t = d
  none_yet (going e f j l g) t = never _ (rw e) t
  none_yet (done e f n m g) t = never _ (rw e) t

  -- then it is the Begin that comes
  awaits_begin : (awaiting r.progress.state && not (is_begin (kind a))) ≡ false
  awaits_begin = go (awaiting r.progress.state) refl
    where
      go : (b : Bool) → awaiting r.progress.state ≡ b → (b && not (is_begin (kind a))) ≡ false
      go true e =
          let z : i ≡ 0 = C.meets.begin_first (none_yet C.holding.phase e) in
          let k : kind a ≡ (T.segment 0).kind = C.meets.brings.same_kind_lem ∙ ap (λ (n : ℕ). (T.segment n).kind) z in
          rw k (ap not (first_begins T.cutting))
      go false e = refl

  -- its head is the segment's
  head_is : head_of x ≡ a.segment
  head_is = λ j. record {
    transaction_id = (T.cutting.one_transaction i C.meets.in_train ∙ sym C.meets.transaction) j;
    sequence_number = sym C.meets.brings.same_sequence j;
    kind = sym C.meets.brings.same_kind_lem j;
  }

  -- the codec takes it
  codec_passes : refusal (codec_rows r.terms.version a.segment (length a.octets)) ≡ None
  codec_passes =
      subst (λ (t : Terms). refusal (codec_rows t.version a.segment (length a.octets)) ≡ None) (sym C.holding.terms_are)
      (subst (λ (l : List ℕ). refusal (codec_rows T.terms.version a.segment (length l)) ≡ None) (sym C.meets.brings.same_data)
      (subst (λ (h : Segment). refusal (codec_rows T.terms.version h (length x.segment_data)) ≡ None) head_is (T.codec i C.meets.in_train)))

  -- none of the codec's tests holds
  codec_test : (n : ℕ) → test (codec_rows r.terms.version a.segment (length a.octets)) n ≡ false
  codec_test = refusal_none (codec_rows r.terms.version a.segment (length a.octets)) codec_passes

  -- none of receive's tests holds
  pub passes : refusal (receive_rows T.interval r a C.w.store C.out) ≡ None
  passes =
      refusal_pass (receive_rows T.interval r a C.w.store C.out)
      (le-ltb _ _ C.holding.room
      ⨾ le-ltb _ _ long_enough
      ⨾ C.possible
      ⨾ le-ltb a.reading r.progress.last_monotonic_ms (omega (arith, C.holding.read_by, C.meets.reading_meets.never_falls))
      ⨾ ap not (same_identity_lem _ _ (C.meets.peer ∙ ap (λ (t : Terms). t.peer) (sym C.holding.terms_are)))
      ⨾ ap not (same_protocol_lem _ _ (C.meets.protocol ∙ ap (λ (t : Terms). t.protocol) (sym C.holding.terms_are)))
      ⨾ ap not (eq-eqb _ _ (C.meets.transaction ∙ ap (λ (t : Terms). t.transaction_id) (sym C.holding.terms_are)))
      ⨾ codec_test 0 ⨾ codec_test 1 ⨾ codec_test 2 ⨾ codec_test 3 ⨾ codec_test 4 ⨾ codec_test 5
      ⨾ ap not (eq-eqb _ _ C.meets.parsed)
      ⨾ ap not takes
      ⨾ awaits_begin
      ⨾ le-ltb _ _ C.meets.reading_meets.below
      ⨾ tt)

  -- and it is not late
  pub in_time : late r.progress.deadline_monotonic_ms a.reading ≡ false
  in_time = not_late r.progress.deadline_monotonic_ms a.reading (not_due T C.w C.calls a.reading C.holding C.meets.reading_meets)
