pub mod Ends
pub mod Weaving
