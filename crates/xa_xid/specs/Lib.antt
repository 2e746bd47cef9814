pub mod Errors
pub mod Part
pub mod Xids
pub mod Digests
pub mod Bytes
pub mod Text
