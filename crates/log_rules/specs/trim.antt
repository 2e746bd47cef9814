pub mod Tables
pub mod Trims
pub mod Marks
