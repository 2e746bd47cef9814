pub mod Cases
pub mod Lends
pub mod Takes
pub mod Restores
