pub mod Rising
pub mod Whole
pub mod Long
pub mod Ways
pub mod Fates
pub mod Errors
