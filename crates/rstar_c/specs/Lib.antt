pub mod Handles
pub mod Texts
