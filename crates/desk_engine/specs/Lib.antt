pub mod Turns
pub mod Weaves
pub mod Groups
