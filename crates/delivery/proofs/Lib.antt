-- Demand 3: the progress of a train (Progress to ProgressAll), the theorem (Theorem), its cases and what it shuts out (InOrder, TrainsRefuted,
-- ExceptionsServed). Wiping and OccasionsRefuted are of the occasions, AfterRelease of what a release gives and leaves, Waits of how long our receiver
-- waits.
pub mod Progress
pub mod ProgressReleased
pub mod ProgressPasses
pub mod ProgressRepeat
pub mod ProgressNew
pub mod ProgressAll
pub mod Theorem
pub mod InOrder
pub mod ExceptionsServed
pub mod TrainsRefuted
pub mod Wiping
pub mod AfterRelease
pub mod OccasionsRefuted
pub mod Waits
