-- Records spelled in lent octets: numbers (Numbers), what a layout is (Spelling), rows of equal width (Many), the numbers of cases (Cases),
-- and the layouts of a segment (Segments).
pub mod Spelling
pub mod Numbers
pub mod Many
pub mod Cases
pub mod Segments
