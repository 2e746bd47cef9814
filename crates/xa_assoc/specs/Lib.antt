pub mod Names
pub mod Seats
pub mod Associations
pub mod Reacting
pub mod Answers
pub mod Ready
pub mod Restored
pub mod Errors
