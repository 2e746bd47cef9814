pub mod Along
pub mod Captions
pub mod Plans
pub mod Sums
pub mod Pictures
pub mod Layers
pub mod Rings
pub mod Lines
