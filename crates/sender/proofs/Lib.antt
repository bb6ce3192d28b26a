-- Laws that the proofs of several functions cite.
pub mod Marking
pub mod Stepping
pub mod Turning
pub mod Same
pub mod Profiles
pub mod Waiting
pub mod Deadlines
pub mod Retired
pub mod Finished
