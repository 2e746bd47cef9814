pub mod Stages
pub mod Tables
pub mod Rebuilt
pub mod Remembered
