pub mod Counted
pub mod Belonging
pub mod Cut
pub mod Tails
pub mod Parts
pub mod Drawn
pub mod Captions
