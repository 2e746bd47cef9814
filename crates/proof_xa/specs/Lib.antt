pub mod Rows
pub mod Moves
pub mod Refusals
pub mod Histories
