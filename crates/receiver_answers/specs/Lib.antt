-- What a receiver answers, in numbers and octets.
pub mod Answers
