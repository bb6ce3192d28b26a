-- Every order of a short train: the numbers of a refused order (Numbers), the orders by number and what write_order answers (Orders), and what is
-- shown of it (Statement).
pub mod Numbers
pub mod Orders
pub mod Statement
