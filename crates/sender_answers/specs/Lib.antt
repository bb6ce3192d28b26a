-- What the sender's exports answer, and the failures of the lower layer that numbers name (Answers); how SUBMISSION is written (Laws).
pub mod Answers
pub mod Laws
