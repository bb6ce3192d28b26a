-- Demand 3 (Calls, Delivery, Demand), what a call leaves (Leaves), the occasions on which a store is wiped (Occasions) and how long a receiver waits
-- (Waiting) are statements. The other files are laws and proofs: of demand 3 up to Refuted, Left of Leaves. The theorems themselves, and the laws of
-- Occasions and Waiting, stand in proofs/.
pub mod Calls
pub mod Delivery
pub mod Demand
pub mod Leaves
pub mod Occasions
pub mod Waiting
pub mod Lists
pub mod Rules
pub mod Body
pub mod Message
pub mod Invariant
pub mod Ready
pub mod Possible
pub mod Steps
pub mod Own
pub mod Train
pub mod Safety
pub mod Same
pub mod Witness
pub mod Refuted
pub mod Left
pub mod Progress
pub mod ProgressReleased
pub mod ProgressPasses
pub mod ProgressAll
pub mod ExceptionsServed
pub mod TrainsRefuted
pub mod Wiping
pub mod AfterRelease
pub mod OccasionsRefuted
