pub mod Fails
pub mod Traces
