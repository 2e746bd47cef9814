pub mod Lists
pub mod Placed
pub mod Names
pub mod Moved
pub mod Listed
