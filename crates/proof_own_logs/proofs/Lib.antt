pub mod Appending
pub mod Reaching
pub mod Fitting
