pub mod Texts
pub mod Left
