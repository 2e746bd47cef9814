pub mod Inputs
pub mod States
pub mod Turns
pub mod Bounds
pub mod Makes
pub mod Restarting
pub mod Opening
pub mod Laws
