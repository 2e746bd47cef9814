pub mod Owns
pub mod Alone
pub mod Turns
