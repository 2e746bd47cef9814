pub mod Reading
pub mod OneWay
pub mod Tails
pub mod Heads
pub mod Begun
pub mod Told
pub mod Kept
