-- The receiver's exports: what each call gives and leaves (Calls), and the ways in which a call returns (Laws).
pub mod Calls
pub mod Laws
