-- What the sender's exports give and leave (Calls), and the ways in which they return (Laws).
pub mod Calls
pub mod Laws
