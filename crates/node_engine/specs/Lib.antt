pub mod Again
pub mod Branches
pub mod DataTexts
pub mod Answers
pub mod Runs
pub mod Starts
