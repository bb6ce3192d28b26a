-- Peers and protocols: when they are refused or the same (Peer); bench profiles (Profile); and the laws of both (Laws).
pub mod Peer
pub mod Profile
pub mod Laws
