pub mod Versions
pub mod Pairs
pub mod writes
