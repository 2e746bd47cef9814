pub mod Findings
pub mod Messages
pub mod Lines
pub mod Spellings
pub mod Asked
pub mod Speakers
