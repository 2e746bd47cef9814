pub mod Parts
pub mod Sights
pub mod Questions
pub mod Moves
pub mod Scans
