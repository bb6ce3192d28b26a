-- What becomes of a section's receiver before the next section opens over its store, and what is told of it (Closing).
pub mod Closing
