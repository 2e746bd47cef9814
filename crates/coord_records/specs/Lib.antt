pub mod Summaries
pub mod Readings
pub mod Plans
pub mod Answers
pub mod Progress
pub mod Numbered
pub mod Remembered
