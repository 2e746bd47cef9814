pub mod Along
pub mod Ringing
pub mod Wholes
pub mod Adding
pub mod Saying
pub mod Counting
