-- The layout of a sender's plan: three numbers and an octet (Row), the record of a planner (Planned), that of the frozen check (Frozen),
-- and the plan (Plans).
pub mod Row
pub mod Planned
pub mod Frozen
pub mod Plans
