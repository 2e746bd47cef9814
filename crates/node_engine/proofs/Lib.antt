pub mod Runs
pub mod Homes
pub mod Owed
pub mod Pairs
pub mod Answering
pub mod Resolving
