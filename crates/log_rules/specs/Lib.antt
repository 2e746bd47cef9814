pub mod order
pub mod trim
pub mod sound
pub mod reads
