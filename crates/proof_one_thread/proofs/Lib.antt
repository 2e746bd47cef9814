pub mod Bytes
pub mod Events
pub mod Again
