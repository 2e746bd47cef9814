pub mod Lists
pub mod Moves
pub mod Parting
