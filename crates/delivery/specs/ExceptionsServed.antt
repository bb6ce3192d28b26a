-- The definitions that the laws of proofs/ExceptionsServed speak of.
use Rattle.std.specs.Prelude.{ℕ, List, cond}
use Rattle.tsar.specs.Kinds.{is_exceptions}
use Rattle.tsar.specs.Layout.{WholeSegment}
use Rattle.segmentation.specs.Frozen.{frozen_of}
use Rattle.segmentation.proofs.Retired.{window_asked, exceptions_train}
use Rattle.receiver.specs.Answers.{refuses}
use Rattle.receiver.specs.Receive.{kind}
use Rattle.delivery.specs.Calls.{receive, advance, cancel, release, StepFunction, ours}
use Rattle.delivery.specs.Demand.{frozen_train_of}

-- ---- the train

abbrev pub message : List ℕ
message = exceptions_train.message

abbrev pub train : ℕ → WholeSegment
train = frozen_train_of (frozen_of exceptions_train) message

-- ---- ours, but a Begin that asks for the window is refused

abbrev pub refuses_exceptions : StepFunction
refuses_exceptions r store (receive a out) = cond (is_exceptions (window_asked (kind a))) (refuses (38, 0) r store out) (ours r store (receive a out))
refuses_exceptions r store (advance n) = ours r store (advance n)
refuses_exceptions r store (cancel n) = ours r store (cancel n)
refuses_exceptions r store (release n) = ours r store (release n)
