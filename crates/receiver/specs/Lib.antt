-- The receiver: the numbers of its refusals (Numbers), its record (Record), what calls answer and do (Answers, Receive, Advance) and how code says
-- it (Says), the steps of the code (Steps), and laws of the figures beside a response (Figured).
pub mod Numbers
pub mod Record
pub mod Answers
pub mod Receive
pub mod Advance
pub mod Says
pub mod Steps
pub mod Figured
