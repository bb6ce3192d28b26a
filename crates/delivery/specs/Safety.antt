-- With no delivery conditions: whatever is handed over from segments of a true cutting is that message. It follows from the first half alone.
use Rattle.std.specs.Prelude.{ℕ, ◌≡◌, List, [], ◌∷◌, not, ◌&&◌, Option, Some, None}
use Rattle.std.proofs.Common.{◌∙◌, arith}
use Rattle.tsar.specs.Rows.{either}
use Rattle.tsar.specs.Layout.{WholeSegment}
use Rattle.segmentation.specs.Cutting.{Cutting}
use Rattle.receiver.specs.Answers.{Step}
use Rattle.receiver.specs.Receive.{sequence}
use Rattle.receiver.specs.Advance.{try_new_of}
use Rattle.delivery.specs.Calls.{Call, receive, advance, cancel, release, Left, HandOver, StepFunction, TryNewFunction, step_of, ours, find, absent, brought, is_refused, has_failed, add_accepted, add_handed, carried, then, after, start, AllOfAccepted, AllFitTypes}
use Rattle.delivery.specs.Demand.{FirstHalf, Safety, BringsOf, AllBringOf, AllHand}
use Rattle.delivery.specs.Invariant.{after_the_list}
use Rattle.delivery.specs.Own.{own_first_half}
use Rattle.delivery.specs.Train.{OfTrain, of_train_more, train_message}

module _ (message : List ℕ) (transaction count : ℕ) (segment : ℕ → WholeSegment) (C : Cutting message transaction count segment) where
  -- the segments behind each message that was handed over are the train's
  abbrev AllOfTrain : List HandOver → Type 0
  AllOfTrain [] = Unit {0}
  AllOfTrain (h ∷ hs) = OfTrain count segment h.accepted × AllOfTrain hs

  -- their sequence numbers are octets
  fit_types : (cs : List Call) → AllBringOf count segment cs → AllFitTypes cs
  fit_types [] b = tt
  fit_types (receive a out ∷ cs) b =
      let x = b.0 in
      (omega (arith, x.1, x.2.same_sequence, C.numbered x.0 x.1, C.at_most), fit_types cs b.1)
  fit_types (advance n ∷ cs) b = (tt, fit_types cs b.1)
  fit_types (cancel n ∷ cs) b = (tt, fit_types cs b.1)
  fit_types (release n ∷ cs) b = (tt, fit_types cs b.1)

  -- what is accepted stays the train's
  accepted_of : (c : Call) (st : Step) (acc : List WholeSegment) → BringsOf count segment c → OfTrain count segment acc → OfTrain count segment (add_accepted c st acc)
  accepted_of (receive a out) st acc b has =
      either (OfTrain count segment) (not (is_refused st.answer) && not (has_failed st.receiver.progress.state) && absent (find (sequence a) acc)) (brought a ∷ acc) acc
      (λ e. of_train_more count segment (brought a) acc b.0 b.1 (b.2.same_sequence ∙ C.numbered b.0 b.1) (record { same_kind_lem = b.2.same_kind_lem; same_data = b.2.same_data }) has)
      (λ e. has)
  accepted_of (advance n) st acc b has = has
  accepted_of (cancel n) st acc b has = has
  accepted_of (release n) st acc b has = has

  -- and so does what stands behind a message
  handed_of : (m : Option ℕ) (out : List ℕ) (acc : List WholeSegment) (hs : List HandOver) → OfTrain count segment acc → AllOfTrain hs → AllOfTrain (add_handed m out acc hs)
  handed_of None out acc hs has all = all
  handed_of (Some n) out acc hs has all = (has, all)

  -- through the whole list
  after_of : (step : StepFunction) (w : Left) (cs : List Call) → AllBringOf count segment cs → OfTrain count segment w.accepted → AllOfTrain w.handed → AllOfTrain (after step w cs).handed
  after_of step w [] b has all = all
  after_of step w (c ∷ cs) b has all =
      let st = step w.receiver w.store c in
      let more = accepted_of c st w.accepted b.0 has in
      after_of step (then step w c) cs b.1 more (handed_of (carried st.answer) st.output (add_accepted c st w.accepted) w.handed more all)

  -- so each is the message
  all_hand : (hs : List HandOver) → AllOfAccepted hs → AllOfTrain hs → AllHand message hs
  all_hand [] r all = tt
  all_hand (h ∷ hs) r all = (train_message C h r.0 all.0, all_hand hs r.1 all.1)

-- a receiver of which the first half holds is safe
pub first_half_safe : (new : TryNewFunction) (step : StepFunction) → FirstHalf new step → Safety new step
first_half_safe new step first t made ok store message transaction count segment C cs b =
    all_hand message transaction count segment C (after step (start (new t made).receiver store) cs).handed
    (first t made ok store cs (fit_types message transaction count segment C cs b)).messages
    (after_of message transaction count segment C step (start (new t made).receiver store) cs b (λ s x f. absurd (let z : ◌≡◌ {A = ℕ} 0 1 = cc in omega arith)) tt)

-- with any interval
pub safety_at : (interval : ℕ) → Safety try_new_of (step_of interval)
safety_at interval = first_half_safe try_new_of (step_of interval) (after_the_list interval)

-- and ours
pub safety : Safety try_new_of ours
safety = first_half_safe try_new_of ours own_first_half
