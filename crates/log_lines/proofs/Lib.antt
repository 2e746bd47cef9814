pub mod Holding
pub mod Texts
