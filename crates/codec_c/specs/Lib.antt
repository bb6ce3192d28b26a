-- The exported codec: the number that a call gives (Codes), what each call gives and leaves (Calls), and the laws of both (Laws).
pub mod Codes
pub mod Calls
pub mod Laws
