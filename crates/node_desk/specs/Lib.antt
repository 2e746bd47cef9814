pub mod Words
pub mod Growth
pub mod Ways
