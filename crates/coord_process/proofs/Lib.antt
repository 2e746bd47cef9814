pub mod Entries
pub mod Heard
pub mod Made
pub mod Opened
pub mod Restarted
pub mod Kept
pub mod Begun
pub mod Fronts
