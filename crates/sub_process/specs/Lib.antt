pub mod Subordinates
pub mod Steps
pub mod Fronts
