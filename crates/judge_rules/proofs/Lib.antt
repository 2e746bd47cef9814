pub mod Members
pub mod Passing
pub mod Growing
