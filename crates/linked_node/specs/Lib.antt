pub mod Numbers
pub mod Turns
pub mod Openings
