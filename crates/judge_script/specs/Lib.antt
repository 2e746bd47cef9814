pub mod Words
pub mod Headers
pub mod Askings
pub mod Answers
pub mod Numbers
pub mod Transcripts
