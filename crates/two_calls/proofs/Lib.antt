-- The law of two calls: tests whose rows all pass (Passing), the numbers that the machines give (Numbers, SenderNumbers), what makes the law hold
-- (Behaving), the law of plans, receivers and senders (PlanNext, ReceiverNext, SenderNext), and all three (TwoCallsLaw).
pub mod Passing
pub mod Numbers
pub mod SenderNumbers
pub mod Behaving
pub mod PlanNext
pub mod ReceiverNext
pub mod SenderNext
pub mod TwoCallsLaw
