pub mod Passes
pub mod Marks
pub mod Makes
pub mod Turns
pub mod Locked
pub mod Posts
