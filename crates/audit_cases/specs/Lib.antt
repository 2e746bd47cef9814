pub mod Kinds
pub mod Notes
pub mod Firsts
pub mod Sayings
