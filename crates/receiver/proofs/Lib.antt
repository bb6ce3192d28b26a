-- Laws that the proofs of several functions use: tests (AnyOf, InOrder), 62 (HeldSums, Possible), and what receive does (Settling, JoinedData, Calling);
-- how far a repeat is compared (Repeats); and when cancel and release are refused (Closing) and when a making is (Making), which no proof here uses but crates above do.
pub mod AnyOf
pub mod InOrder
pub mod HeldSums
pub mod Possible
pub mod Settling
pub mod JoinedData
pub mod Calling
pub mod Repeats
pub mod Closing
pub mod Making
