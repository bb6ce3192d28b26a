pub mod Opening
pub mod Profiles
