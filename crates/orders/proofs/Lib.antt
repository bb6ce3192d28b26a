pub mod Laws
pub mod Steps
pub mod Written
pub mod Refusals
pub mod Answers
pub mod Examples
