-- A train of segments in one call: what its segments do one after another (Walk), what a caller has of it beside single calls (Singly), what
-- the call gives and leaves (Calls), and the laws of both (Laws).
pub mod Walk
pub mod Singly
pub mod Calls
pub mod Laws
