pub mod PlaceLaws
pub mod Formats
pub mod LineLaws
pub mod LogLaws
pub mod Digits
