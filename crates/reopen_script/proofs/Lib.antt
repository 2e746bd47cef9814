pub mod LogLines
pub mod Skipped
pub mod Words
pub mod Alike
pub mod Reading
