pub mod Knowing
pub mod Telling
