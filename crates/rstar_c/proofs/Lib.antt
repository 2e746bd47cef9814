pub mod CoreValues
pub mod Openings
