pub mod Messages
pub mod Outcome
pub mod Refusals
