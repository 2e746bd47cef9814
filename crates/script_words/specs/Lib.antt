pub mod Lines
pub mod Steps
pub mod Operations
pub mod Outcomes
