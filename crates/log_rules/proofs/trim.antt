pub mod Names
pub mod Noted
pub mod Picks
pub mod Marked
