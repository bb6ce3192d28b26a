-- A law that the proof of catkhize_encode cites: what its first test refuses (Refusing).
pub mod Refusing
