pub mod Lefts
pub mod Idle
