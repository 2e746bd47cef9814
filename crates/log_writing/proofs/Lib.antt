pub mod Forces
pub mod Fitting
