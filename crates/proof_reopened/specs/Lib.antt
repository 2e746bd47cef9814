pub mod Earlier
pub mod Since
pub mod Reopened
pub mod Laws
