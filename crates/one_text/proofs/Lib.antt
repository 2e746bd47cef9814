pub mod Bytes
pub mod Processes
pub mod OneText
