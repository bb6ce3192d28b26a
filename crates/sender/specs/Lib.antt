-- The sender: document 01's numbers, the record and what is impossible (62), the steps, the calls, try_new, 63 step by step, what the answers say;
-- and the laws of reached senders, up to every list of calls.
pub mod Numbers
pub mod Record
pub mod Steps
pub mod Calls
pub mod TryNew
pub mod Tickets
pub mod Says
pub mod Pending
pub mod Reached
pub mod Keeps
pub mod CallList
pub mod Made
pub mod Leaves
pub mod Left
pub mod Exact
pub mod Own
