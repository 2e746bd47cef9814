pub mod Names
pub mod Scans
pub mod Branches
pub mod Decisions
pub mod Cases
