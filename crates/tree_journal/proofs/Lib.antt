pub mod Spans
pub mod Steps
pub mod Placed
pub mod Journals
pub mod OpenPlaces
