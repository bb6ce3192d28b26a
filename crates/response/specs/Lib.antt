-- Statuses, maps and responses (Responses), and the laws of a map's figures (MissingEntries).
pub mod Responses
pub mod MissingEntries
