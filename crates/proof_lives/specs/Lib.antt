pub mod Lives
pub mod Outcomes
pub mod Tells
