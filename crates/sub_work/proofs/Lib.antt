pub mod Quiet
pub mod Ends
pub mod Kept
pub mod Known
pub mod Begun
pub mod Deciding
