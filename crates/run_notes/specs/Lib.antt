pub mod Managers
pub mod Told
pub mod Words
