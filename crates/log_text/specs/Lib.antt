pub mod Forms
pub mod Frames
pub mod Payloads
pub mod Parts
pub mod Reading
pub mod Made
pub mod Marks
pub mod Branches
