pub mod Causes
pub mod Texts
