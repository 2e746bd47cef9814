pub mod Chains
pub mod Grids
pub mod Keys
