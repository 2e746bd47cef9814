pub mod Asked
pub mod Empty
pub mod Entered
pub mod OwnSteps
pub mod Refusing
pub mod Staying
pub mod Turning
mod Refused
