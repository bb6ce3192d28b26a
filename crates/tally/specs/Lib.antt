-- How an outcome and a count are printed (Text), and what one more case makes of a count (Count).
pub mod Text
pub mod Count
