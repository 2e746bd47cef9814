pub mod Entries
pub mod Left
pub mod Undamaged
pub mod Unfailed
