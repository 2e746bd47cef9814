mod Apart
mod MemoryAlone
mod Seating
mod Leaving
pub mod Passing
mod Posting
mod Listed
mod Refused
