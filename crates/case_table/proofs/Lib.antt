pub mod Kept
pub mod Known
pub mod Keys
pub mod Places
pub mod Writes
