pub mod Stores
pub mod Memory
pub mod Faults
pub mod Errors
