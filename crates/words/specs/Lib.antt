-- 256 marks in four words: the definitions (Marks), the laws of questions about a predicate (Search, Counts), of a number's bits (Sums), and of
-- marks (Laws).
pub mod Marks
pub mod Search
pub mod Counts
pub mod Sums
pub mod Laws
