pub mod Requests
pub mod Scripts
