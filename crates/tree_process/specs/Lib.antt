pub mod Nodes
pub mod Openings
pub mod Restarts
pub mod Reopenings
