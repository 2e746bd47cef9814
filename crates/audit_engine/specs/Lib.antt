pub mod Namings
pub mod Chains
pub mod Audits
pub mod Explanations
pub mod Lines
pub mod logs
