pub mod Migrated
pub mod Again
