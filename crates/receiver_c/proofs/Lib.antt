-- Laws of the exported making by its profile (Profiles), which no proof here uses.
pub mod Profiles
