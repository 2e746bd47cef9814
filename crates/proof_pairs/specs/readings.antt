pub mod ReadingOf
pub mod Halves
pub mod Steps
pub mod StepLaws
