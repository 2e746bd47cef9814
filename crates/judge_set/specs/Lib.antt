pub mod Sets
pub mod Resuming
