-- What the summary of a section, and of all sections, comes to.
pub mod Summing
