pub mod Passes
pub mod Posts
pub mod Closing
pub mod Opening
pub mod Settling
pub mod Refusals
