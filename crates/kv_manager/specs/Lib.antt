pub mod Sights
pub mod Turns
pub mod Restarts
pub mod Resources
pub mod Remembered
