pub mod Orders
pub mod Logs
pub mod Holders
