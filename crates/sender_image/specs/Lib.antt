-- The layout SENDER: its state (States), its submission and deadline (Parts), what stands before the plan (Heads), and the whole record (Images).
pub mod States
pub mod Parts
pub mod Heads
pub mod Images
