-- The layout RECEIVER: states, ends and deadlines (Parts), what stands before the slots (Heads), and the whole record (Images).
pub mod Parts
pub mod Heads
pub mod Images
