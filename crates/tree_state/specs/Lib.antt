pub mod StandsFor
pub mod Fits
pub mod Steps
pub mod Worlds
pub mod Runs
pub mod Faults
pub mod Cuts
