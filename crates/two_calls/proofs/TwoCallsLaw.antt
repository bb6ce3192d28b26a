-- The law of two calls in a row. Assumes nothing.
use Rattle.two_calls.specs.TwoCalls.{NextIsSpelled}
use Rattle.two_calls.proofs.PlanNext.{plan_next}
use Rattle.two_calls.proofs.ReceiverNext.{receiver_next}
use Rattle.two_calls.proofs.SenderNext.{sender_next}

pub next_is_spelled : NextIsSpelled
next_is_spelled = (plan_next, receiver_next, sender_next)
