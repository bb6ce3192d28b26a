-- Laws of the exports that no proof of a function cites (Profiles), and what a step and its own tests say (Handed).
pub mod Handed
pub mod Profiles
