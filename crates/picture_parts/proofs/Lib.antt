pub mod Marking
pub mod Tailing
pub mod Telling
pub mod Answering
