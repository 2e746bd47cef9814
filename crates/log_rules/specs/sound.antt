pub mod Sound
pub mod Written
