-- Demand 3, as one statement about a receiver that is given by its try_new and by its step function.
use Rattle.std.specs.Prelude.{ℕ, ◌≤◌, ◌<◌, ◌≡◌, ◌≢◌, List, [], ◌∷◌, ◌++◌, length, take, drop, Option, Some, None}
use Rattle.segmentation.specs.declared.PlannedPart.{PlannedPart}
use Rattle.tsar.specs.Layout.{WholeSegment, whole}
use Rattle.tsar.specs.declared.AcknowledgmentWindow.{AcknowledgmentWindow}
use Rattle.segmentation.specs.Plan.{plan_message, even_message, segmented, segment_at}
use Rattle.segmentation.specs.Frozen.{no_head, head_at, frozen_refusal, frozen_of, frozen_segment_at}
use Rattle.segmentation.specs.declared.FrozenMessage.{FrozenMessage}
use Rattle.tsar.specs.declared.SegmentHead.{SegmentHead}
use Rattle.segmentation.specs.Cutting.{Cutting}
use Rattle.segmentation.specs.declared.SegmentedMessage.{SegmentedMessage}
use Rattle.receiver.specs.Record.{store_octets}
use Rattle.receiver.specs.Answers.{Step, refused}
use Rattle.receiver.specs.declared.Terms.{Terms}
use Rattle.delivery.specs.Calls.{Call, receive, advance, cancel, release, Left, HandOver, StepFunction, TryNewFunction, start, after, AfterTheList, AllFitTypes}
use Rattle.delivery.specs.Delivery.{Brings, DeliveryConditions, HandsOverExactly}

-- what the call c answers and leaves, made after the calls that left w
abbrev pub step_after : StepFunction → Left → Call → Step
step_after step w c = step w.receiver w.store c

-- for every list of calls on a receiver that try_new gave and a store, refused ones included, whatever they bring.
-- The only hypothesis is AllFitTypes: the calls' arguments fit their types, that is, each sequence number is an octet
abbrev pub FirstHalf : TryNewFunction → StepFunction → Type 0
FirstHalf new step =
    (t : Terms) (made : ℕ) → (new t made).refused ≡ None
    → (store : List ℕ) (cs : List Call) → AllFitTypes cs
    → AfterTheList t.maximum_message_octets (after step (start (new t made).receiver store) cs)

-- segment i of a plan of a message, as the plan's public call gives it, with its data
abbrev pub given_segment : Option PlannedPart → List ℕ → WholeSegment
given_segment None message = whole no_head.segment []
given_segment (Some x) message = whole x.head.segment (take x.head.segment_data_length (drop x.offset message))

abbrev pub train_of : SegmentedMessage → List ℕ → ℕ → WholeSegment
train_of p message i = given_segment (segment_at p i) message

abbrev pub frozen_train_of : FrozenMessage → List ℕ → ℕ → WholeSegment
frozen_train_of f message i = given_segment (frozen_segment_at f i) message

-- a train for a message under a transaction and a version: one of either planner, or one that the frozen check accepts, whoever proposed it
pub data TrainFor (transaction version : ℕ) (message : List ℕ) : ℕ → (ℕ → WholeSegment) → Type 0 where
  planned : (budget ceiling : ℕ) (w : AcknowledgmentWindow) (p : SegmentedMessage)
      → plan_message (length message) budget transaction w version ceiling ≡ segmented p → TrainFor transaction version message p.count (train_of p message)
  evenly : (budget ceiling : ℕ) (w : AcknowledgmentWindow) (p : SegmentedMessage)
      → even_message (length message) budget transaction w version ceiling ≡ segmented p → TrainFor transaction version message p.count (train_of p message)
  frozen : (heads : List SegmentHead) (count : ℕ) (joined : List ℕ) (budget ceiling : ℕ)
      → (head_at heads 0).segment.transaction_id ≡ transaction
      → frozen_refusal (record { heads = heads; count = count; joined = joined; message = message; budget = budget; version = version; ceiling = ceiling }) ≡ None
      → TrainFor transaction version message count
      (frozen_train_of (frozen_of (record { heads = heads; count = count; joined = joined; message = message; budget = budget; version = version; ceiling = ceiling })) message)

-- of receivers of the terms t, with an interval in the delivery conditions: for every such train of a message within the maximum, under the transaction
-- and the version that try_new was given, and every list of calls under the delivery conditions: of each call of it
abbrev pub SecondHalfAt : ℕ → TryNewFunction → StepFunction → Terms → Type 0
SecondHalfAt interval new step t =
    (made : ℕ) → (new t made).refused ≡ None
    → (store message : List ℕ) (count : ℕ) (segment : ℕ → WholeSegment)
    → TrainFor t.transaction_id t.version message count segment
    → length message ≤ t.maximum_message_octets → store_octets ≤ length store
    → (cs : List Call) (c : Call)
    → DeliveryConditions interval t made count segment [] (cs ++ (c ∷ []))
    → HandsOverExactly count segment message cs c (step_after step (after step (start (new t made).receiver store) cs) c)

-- of receivers of all terms, each with its own interval
abbrev pub SecondHalf : (Terms → ℕ) → TryNewFunction → StepFunction → Type 0
SecondHalf interval new step = (t : Terms) → SecondHalfAt (interval t) new step t

-- of a receiver that is given by what try_new gives and by its step function
pub record Demand3 (interval : Terms → ℕ) (new : TryNewFunction) (step : StepFunction) : Type 0 where
  pub first_half : FirstHalf new step
  pub second_half : SecondHalf interval new step

-- no call of any list is refused with 62, under the same hypothesis
abbrev pub NoneRefusedWith62 : TryNewFunction → StepFunction → Type 0
NoneRefusedWith62 new step =
    (t : Terms) (made : ℕ) → (new t made).refused ≡ None
    → (store : List ℕ) (cs : List Call) → AllFitTypes cs → (c : Call)
    → (step_after step (after step (start (new t made).receiver store) cs) c).answer ≢ refused (62, 0)

-- each receive brings a segment of the train
abbrev pub BringsOf : ℕ → (ℕ → WholeSegment) → Call → Type 0
BringsOf count segment (receive a out) = (i : ℕ) × (i < count) × Brings (segment i) a
BringsOf count segment (advance n) = Unit {0}
BringsOf count segment (cancel n) = Unit {0}
BringsOf count segment (release n) = Unit {0}

abbrev pub AllBringOf : ℕ → (ℕ → WholeSegment) → List Call → Type 0
AllBringOf count segment [] = Unit {0}
AllBringOf count segment (c ∷ cs) = BringsOf count segment c × AllBringOf count segment cs

abbrev pub AllHand : List ℕ → List HandOver → Type 0
AllHand message [] = Unit {0}
AllHand message (h ∷ hs) = (h.message ≡ message) × AllHand message hs

-- with no delivery conditions: where the receives bring segments of a true cutting of a message, whoever cut it, what is handed over is that message
abbrev pub Safety : TryNewFunction → StepFunction → Type 0
Safety new step =
    (t : Terms) (made : ℕ) → (new t made).refused ≡ None
    → (store message : List ℕ) (transaction count : ℕ) (segment : ℕ → WholeSegment) → Cutting message transaction count segment
    → (cs : List Call) → AllBringOf count segment cs
    → AllHand message (after step (start (new t made).receiver store) cs).handed
