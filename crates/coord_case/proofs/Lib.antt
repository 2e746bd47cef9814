pub mod Children
pub mod Counts
pub mod Held
pub mod Owing
pub mod Works
