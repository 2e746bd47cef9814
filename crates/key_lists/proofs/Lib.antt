pub mod Holding
pub mod Lists
pub mod Tables
