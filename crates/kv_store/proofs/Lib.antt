pub mod Values
pub mod Tables
pub mod Stages
pub mod Order
pub mod Pairs
pub mod Ordered
pub mod Sorted
pub mod Set
mod Rebasing
