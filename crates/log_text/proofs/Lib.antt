pub mod NumberBytes
pub mod NameReading
pub mod MarkReading
pub mod BranchFrames
pub mod Lists
pub mod Owned
pub mod Texts
mod Walks
