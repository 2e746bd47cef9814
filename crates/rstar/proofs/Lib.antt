mod Kept
pub mod Truly
