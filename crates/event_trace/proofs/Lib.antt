pub mod Numbering
pub mod Stepping
pub mod Telling
