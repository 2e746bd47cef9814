pub mod Listed
pub mod Sound
pub mod Counts
pub mod Reactions
pub mod Finishing
pub mod Restoring
