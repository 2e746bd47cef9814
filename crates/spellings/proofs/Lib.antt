pub mod Numerals
pub mod HexText
pub mod Cuts
