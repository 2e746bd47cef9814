pub mod Shut
pub mod Ever
pub mod Refusals
pub mod Lasting
