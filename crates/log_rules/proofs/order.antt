pub mod Keys
pub mod Holders
