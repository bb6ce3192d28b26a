-- The layouts of what both machines hold: peers and protocols (Peers), words of marks (Marks), deadlines (Deadlines), and responses (Responses).
pub mod Peers
pub mod Marks
pub mod Deadlines
pub mod Responses
