-- Lent octets: wiping and comparing (Octets), how far a comparison looks (Compare), and the laws of a list written over from a place on (Laws).
pub mod Octets
pub mod Laws
pub mod Compare
