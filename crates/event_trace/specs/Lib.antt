pub mod Numbered
pub mod Told
