mod Bytes
mod FirstCase
pub mod Read
