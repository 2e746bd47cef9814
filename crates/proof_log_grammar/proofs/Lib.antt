pub mod Framed
pub mod Ordered
pub mod Wholes
