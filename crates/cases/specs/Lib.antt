-- Document 01's proved cases (Cases); that converted trains are demand 3's (ConvertedServed); a train in each of its orders: the statement (EveryOrder),
-- its law (EveryOrderServed), an example and what it shuts out (EveryOrderRefuted).
pub mod Cases
pub mod ConvertedServed
pub mod EveryOrder
pub mod EveryOrderServed
pub mod EveryOrderRefuted
