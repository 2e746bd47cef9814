pub mod Answers
pub mod Makes
pub mod Runs
pub mod Histories
pub mod script
