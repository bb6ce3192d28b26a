-- The theorem of document 01's proved cases.
pub mod AllCases
