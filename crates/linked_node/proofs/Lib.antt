pub mod Ends
pub mod Boxed
