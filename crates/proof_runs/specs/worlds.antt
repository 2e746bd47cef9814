pub mod Laws
pub mod Follows
pub mod Modelled
pub mod Refusals
pub mod Determined
