pub mod Words
pub mod Svg
pub mod Grids
pub mod Head
