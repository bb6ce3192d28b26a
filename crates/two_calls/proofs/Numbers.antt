-- The refusals of the planners, of the frozen check, of the converter, of the receiver and of a train: none is 0, and none that of octets that spell no value.
-- Assumes nothing.
use mathlib.Core.Path.{◌≡◌, refl}
use mathlib.Core.Bool.{Bool, true, false, not}
use mathlib.Core.List.{List, [], ◌∷◌}
use Rattle.std.specs.Prelude.{Option, Result, Some, None, Ok, Err}
use Rattle.tsar.specs.declared.decode.Parsed.{Parsed}
use Prim.Native.Nat.{ℕ, zero, suc, ◌+◌, ◌/◌}
use lib.Dec.{eqb, ltb, leb}
use lib.ListN.{length, get_or, drop}
use Rattle.tsar.specs.Rows.{Refusal, first_of, refusal, or_else, either}
use Rattle.tsar.specs.Numbers.{number}
use Rattle.tsar.specs.Reading.{Decoded, decoded, refused as unread, begin_test, params_of, with_params, segment_as, segment_of}
use Rattle.tsar.specs.declared.Error.{Error}
use Rattle.tsar.specs.declared.Error.TheVariants as error
use Rattle.tsar.specs.declared.ErrorField.{ErrorField}
use Rattle.tsar.specs.declared.ErrorField.TheVariants as field
use Rattle.tsar.specs.declared.AcknowledgmentWindow.{AcknowledgmentWindow}
use Rattle.tsar.specs.declared.SegmentType.{SegmentType}
use Rattle.tsar.specs.declared.SegmentType.TheVariants as type
use Rattle.link.specs.declared.MobileIdentity.{MobileIdentity}
use Rattle.link.specs.declared.HigherLayerProtocol.{HigherLayerProtocol}
use Rattle.tsar.specs.Kinds.{prohibited}
use Rattle.segmentation.specs.Plan.{Planning, unsegmented, refused as unplanned, segmented, plan_rows, plan_of, plan_message, spread, even_message}
use Rattle.segmentation.specs.Frozen.{Proposal, data_before, segment_rows, segments_from, frozen_rows, frozen_refusal, checked_as, try_from_frozen}
use Rattle.dialect.specs.declared.Dialect.{Dialect}
use Rattle.dialect.specs.Convert.{other_dialect, converted, dialect_rows, convert_refusal, convert_of}
use Rattle.receiver.specs.declared.Receiver.{Receiver}
use Rattle.receiver.specs.declared.Terms.{Terms as ReceiverTerms}
use Rattle.receiver.specs.Record.{interval_of, late, due}
use Rattle.receiver.specs.Answers.{Answer, refused, answered}
use Rattle.receiver.specs.Receive.{Arrival, Outcome, fails, repeats, closes, keeps, finishes, receive_rows, slot_rules, settle, late_or, receive_after, receive_of}
use Rattle.receiver.specs.Advance.{try_new_rows, made_after, try_new_of, clock_rows, fires, advance_after, advance_of, cancel_rows, cancel_after, cancel_of, release_rows, release_of}
use Rattle.train_c.specs.Walk.{Train, train, stops, after, arrival_of, decoded_step, train_step, train_of}
use Rattle.receiver_answers.specs.Answers.{answer_code}
use Rattle.two_calls.proofs.Passing.{both, either_left, first_passes, all_pass, passes, refusal_passes, and_left, other, other_refusal, fine}

or_else_passes : {A : Type 0} (g : A → Bool) (a b : Option A) → passes g a ≡ true → passes g b ≡ true → passes g (or_else a b) ≡ true
or_else_passes g None b p q = q
or_else_passes g (Some x) b p q = p

-- ---- the codec

field_fine : (f : ErrorField) → fine (number (error.Field f)) ≡ true
field_fine field.TransactionId = refl
field_fine field.SegmentDataLength = refl
field_fine field.BeginSequenceNumber = refl
field_fine field.MessageLength = refl
field_fine field.Crc24 = refl
field_fine field.AcknowledgmentMapLength = refl
field_fine field.OptionalServicesSupportStatus = refl

pub error_fine : (e : Error) → fine (number e) ≡ true
error_fine error.Version = refl
error_fine error.Truncated = refl
error_fine error.Protocol = refl
error_fine error.MessageType = refl
error_fine error.UnsupportedResponse = refl
error_fine (error.Field f) = field_fine f
error_fine error.Reserved = refl
error_fine error.DuplicateParameter = refl

-- ---- the planners, the frozen check and the converter

abbrev pub fine_planning : Planning → Bool
fine_planning unsegmented = true
fine_planning (unplanned x) = fine x
fine_planning (segmented p) = true

pub planning_fine : (n budget transaction : ℕ) (w : AcknowledgmentWindow) (version ceiling : ℕ) → fine_planning (plan_message n budget transaction w version ceiling) ≡ true
unfolding plan_message
planning_fine n budget transaction w version ceiling =
    first_passes fine_planning (plan_rows n budget transaction w version ceiling) (segmented (plan_of n budget transaction w)) refl refl

-- spreading leaves the refusals as they are
pub even_fine : (n budget transaction : ℕ) (w : AcknowledgmentWindow) (version ceiling : ℕ) → fine_planning (even_message n budget transaction w version ceiling) ≡ true
even_fine n budget transaction w version ceiling = go (plan_message n budget transaction w version ceiling) (planning_fine n budget transaction w version ceiling)
  where
    go : (p : Planning) → fine_planning p ≡ true → fine_planning (spread p) ≡ true
    go unsegmented e = e
    go (unplanned x) e = e
    go (segmented p) e = refl

segments_fine : (p : Proposal) (k i : ℕ) → passes fine (segments_from p k i) ≡ true
unfolding segments_from
segments_fine p zero i = refusal_passes fine ((not (eqb (data_before p.heads i) (length p.message)), (23, 0)) ∷ []) refl
segments_fine p (suc k) i =
    or_else_passes fine (refusal (segment_rows p i)) (segments_from p k (suc i)) (refusal_passes fine (segment_rows p i) refl) (segments_fine p k (suc i))

checking_fine : (p : Proposal) → passes fine (frozen_refusal p) ≡ true
unfolding frozen_refusal
checking_fine p = or_else_passes fine (refusal (frozen_rows p)) (segments_from p p.count 0) (refusal_passes fine (frozen_rows p) refl) (segments_fine p p.count 0)

checked_fine : (o : Option Refusal) (p : Proposal) → passes fine o ≡ true → passes fine (checked_as o p).refused ≡ true
checked_fine None p e = e
checked_fine (Some x) p e = e

pub frozen_fine : (p : Proposal) → passes fine (try_from_frozen p).refused ≡ true
unfolding try_from_frozen
frozen_fine p = checked_fine (frozen_refusal p) p (checking_fine p)

-- 26 and 20 behind them
pub convert_fine : (d : Dialect) (p : Proposal) → passes fine (convert_of d p).refused ≡ true
unfolding convert_of convert_refusal
convert_fine d p =
    checked_fine (convert_refusal d p) (converted (other_dialect d) p)
    (or_else_passes fine (frozen_refusal p) (refusal (dialect_rows d p)) (checking_fine p) (refusal_passes fine (dialect_rows d p) refl))

-- ---- the receiver

abbrev pub fine_answer : Answer → Bool
fine_answer (refused x) = fine x
fine_answer (answered response message) = true

pub answer_other : (a : Answer) → fine_answer a ≡ true → other (answer_code a) ≡ true
answer_other (refused x) p = and_left (other_refusal x) _ p
answer_other (answered response message) p = refl

pub receiver_new_fine : (t : ReceiverTerms) (reading : ℕ) → passes fine (try_new_of t reading).refused ≡ true
unfolding try_new_of
receiver_new_fine t reading = go (refusal (try_new_rows t)) (refusal_passes fine (try_new_rows t) refl)
  where
    go : (o : Option Refusal) → passes fine o ≡ true → passes fine (made_after o t reading).refused ≡ true
    go None e = e
    go (Some x) e = e

module _ (interval : ℕ) (r : Receiver) (a : Arrival) (store output : List ℕ) where
  settle_fine : (o : Outcome) → fine_answer (settle interval o r a store output).answer ≡ true
  settle_fine (fails stage status) = refl
  settle_fine repeats = refl
  settle_fine closes = refl
  settle_fine keeps = refl
  settle_fine finishes = refl

  late_fine : (l p : Bool) → fine_answer (late_or interval l p r a store output).answer ≡ true
  late_fine true true = refl
  late_fine true false = refl
  late_fine false p = settle_fine (first_of (slot_rules r a store) keeps)

  pub receive_fine : fine_answer (receive_of interval r a store output).answer ≡ true
  unfolding receive_of
  receive_fine = go (refusal (receive_rows interval r a store output)) (refusal_passes fine (receive_rows interval r a store output) refl)
    where
      go : (o : Option Refusal) → passes fine o ≡ true → fine_answer (receive_after interval o r a store output).answer ≡ true
      go None e = late_fine (late r.progress.deadline_monotonic_ms a.reading) (prohibited r.progress.services.acknowledgment_window)
      go (Some x) e = e

module _ (r : Receiver) (store : List ℕ) (reading : ℕ) where
  fires_fine : (d p : Bool) → fine_answer (fires d p r store reading).answer ≡ true
  fires_fine false p = refl
  fires_fine true true = refl
  fires_fine true false = refl

  pub advance_fine : fine_answer (advance_of r store reading).answer ≡ true
  unfolding advance_of
  advance_fine = go (refusal (clock_rows r store reading)) (refusal_passes fine (clock_rows r store reading) refl)
    where
      go : (o : Option Refusal) → passes fine o ≡ true → fine_answer (advance_after o r store reading).answer ≡ true
      go None e = fires_fine (due r.progress.deadline_monotonic_ms reading) (prohibited r.progress.services.acknowledgment_window)
      go (Some x) e = e

  -- cancel and release answer alike behind their rows
  closing_fine : (rows : List (Bool × Refusal)) → all_pass fine rows ≡ true → fine_answer (cancel_after (refusal rows) r store reading).answer ≡ true
  closing_fine rows e = go (refusal rows) (refusal_passes fine rows e)
    where
      go : (o : Option Refusal) → passes fine o ≡ true → fine_answer (cancel_after o r store reading).answer ≡ true
      go None p = refl
      go (Some x) p = p

  pub cancel_fine : fine_answer (cancel_of r store reading).answer ≡ true
  unfolding cancel_of
  cancel_fine = closing_fine (cancel_rows r store reading) refl

  pub release_fine : fine_answer (release_of r store reading).answer ≡ true
  unfolding release_of
  release_fine = closing_fine (release_rows r store reading) refl

-- ---- a train

abbrev fine_decoded : Decoded → Bool
fine_decoded (decoded s unparsed) = true
fine_decoded (unread x) = fine x

params_fine : (t : SegmentType) (l : List ℕ) (p : Result Parsed Error) → fine_decoded (with_params t l p) ≡ true
params_fine t l (Ok x) = refl
params_fine t l (Err e) = error_fine e

as_fine : (t : SegmentType) (l : List ℕ) → fine_decoded (segment_as t l) ≡ true
unfolding segment_as
as_fine t l =
    let p : Result Parsed Error = params_of t (3 + get_or l 2 0) (drop (3 + get_or l 2 0) l) in
    first_passes fine_decoded
    ((ltb (length l) 3, unread (2, 0)) ∷ (begin_test t (get_or l 1 0), unread (6, 3)) ∷ (ltb (length l) (3 + get_or l 2 0), unread (2, 0)) ∷ [])
    (with_params t l p)
    refl
    (params_fine t l p)

decode_fine : (version : ℕ) (l : List ℕ) → fine_decoded (segment_of version l) ≡ true
unfolding segment_of
decode_fine version l =
    first_passes fine_decoded
    ((ltb version 1, unread (1, 0))
    ∷ (eqb (length l) 0, unread (2, 0))
    ∷ (leb 64 (get_or l 0 0), unread (3, 0))
    ∷ (eqb (get_or l 0 0 / 8) 3, unread (5, 0))
    ∷ (eqb (get_or l 0 0 / 8) 0, segment_as type.Begin l)
    ∷ (eqb (get_or l 0 0 / 8) 1, segment_as type.Continue l)
    ∷ (eqb (get_or l 0 0 / 8) 2, segment_as type.End l)
    ∷ [])
    (unread (4, 0))
    (both _ _ (either_left _ _ (as_fine type.Begin l)) (both _ _ (either_left _ _ (as_fine type.Continue l)) (both _ _ (either_left _ _ (as_fine type.End l)) refl)))
    refl

module _ (peer : MobileIdentity) (protocol : HigherLayerProtocol) (reading : ℕ) where
  step_fine : (r : Receiver) (octets store output : List ℕ) → fine_answer (train_step peer protocol reading r octets store output).answer ≡ true
  unfolding train_step
  step_fine r octets store output = go (segment_of r.terms.version octets) (decode_fine r.terms.version octets)
    where
      go : (d : Decoded) → fine_decoded d ≡ true → fine_answer (decoded_step peer protocol reading d r store output).answer ≡ true
      go (decoded s unparsed) e = receive_fine (interval_of r) r (arrival_of peer protocol reading s unparsed) store output
      go (unread x) e = e

  after_other : (go : Train → Train) → ((t : Train) → other t.code ≡ true → other (go t).code ≡ true) → (t : Train) (a : Answer) (r : Receiver) (store output : List ℕ)
      → fine_answer a ≡ true → other (after go t a r store output).code ≡ true
  after_other go f t (refused x) r store output p = answer_other (refused x) p
  after_other go f t (answered response message) r store output p =
      either (λ (x : Train). other x.code ≡ true) (stops response message r) _ _ (λ _. refl) (λ _. f (train 0 r store output (t.received + 1) response message) refl)

  pub train_other : (l : List (List ℕ)) (t : Train) → other t.code ≡ true → other (train_of peer protocol reading l t).code ≡ true
  unfolding train_of
  train_other [] t p = p
  train_other (octets ∷ rest) t p =
      let s = train_step peer protocol reading t.receiver octets t.store t.output in
      after_other (train_of peer protocol reading rest) (train_other rest) t s.answer s.receiver s.store s.output
      (step_fine t.receiver octets t.store t.output)
