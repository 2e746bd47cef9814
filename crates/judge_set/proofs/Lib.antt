pub mod Members
pub mod Verdicts
pub mod Promises
