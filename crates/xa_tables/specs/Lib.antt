pub mod Calls
pub mod Tables
