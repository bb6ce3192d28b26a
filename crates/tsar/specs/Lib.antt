pub mod Rows
pub mod Numbers
pub mod Layout
pub mod Spells
pub mod Kinds
pub mod Reading
pub mod Octets
pub mod Writing
