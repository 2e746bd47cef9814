pub mod Names
pub mod Events
pub mod Spellings
pub mod Documents
pub mod Rules
pub mod Script
pub mod Inputs
