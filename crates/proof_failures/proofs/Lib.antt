pub mod Fronts
pub mod Left
pub mod Entered
pub mod Inputs
pub mod Restarts
pub mod Again
pub mod Traces
