pub mod Texts
pub mod Sights
pub mod Restarting
pub mod Openings
pub mod Migrating
pub mod Trimming
pub mod Errors
