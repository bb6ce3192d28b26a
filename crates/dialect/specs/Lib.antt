-- Two dialects of a frozen plan: the numbers of a refused conversion (Numbers), what convert answers (Convert), and what is shown of it (Statement).
pub mod Numbers
pub mod Convert
pub mod Statement
