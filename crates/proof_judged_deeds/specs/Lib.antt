pub mod Names
pub mod Deeds
pub mod Data
