pub mod Staged
pub mod Backings
pub mod Crashes
