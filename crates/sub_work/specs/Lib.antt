pub mod Deeds
pub mod Replies
