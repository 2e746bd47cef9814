pub mod Faults
pub mod Refusals
pub mod Places
pub mod Lines
pub mod Logs
pub mod Trees
pub mod Laws
pub mod spelling
