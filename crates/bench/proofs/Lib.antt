-- What the program notes of a call is what the call answered and left (Events); no section begins over the octets of another (Closed, and
-- ByOctets for the code).
pub mod Events
pub mod ByOctets
pub mod Closed
