pub mod TurnRows
pub mod Plans
pub mod Reached
pub mod Outcomes
pub mod Refused
pub mod Branches
pub mod Histories
