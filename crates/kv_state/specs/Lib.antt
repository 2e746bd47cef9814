pub mod Stores
pub mod Works
pub mod Ends
pub mod Folds
pub mod Decisions
pub mod Replays
pub mod Remembered
pub mod Keeping
