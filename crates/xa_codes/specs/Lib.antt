pub mod Codes
pub mod FlagNames
