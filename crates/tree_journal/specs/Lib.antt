pub mod Spans
pub mod Steps
pub mod Kept
pub mod Shown
pub mod Journals
