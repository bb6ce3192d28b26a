-- Two calls of the exports in a row, for their users.
pub mod TwoCalls
