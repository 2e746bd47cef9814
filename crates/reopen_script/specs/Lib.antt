pub mod Ahead
pub mod Inputs
pub mod Laws
