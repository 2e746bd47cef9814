pub mod Stores
pub mod Found
pub mod Seen
pub mod Disks
