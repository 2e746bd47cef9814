pub mod Weaving
pub mod Counting
pub mod Trims
pub mod Grown
pub mod Adding
pub mod Traced
