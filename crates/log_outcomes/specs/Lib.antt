pub mod Boots
pub mod Sayings
pub mod News
pub mod Doubts
