-- Laws that several proofs cite: of single bits (Bits) and of four words at a time (Wordwise).
pub mod Bits
pub mod Wordwise
