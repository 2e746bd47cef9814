pub mod Faults
pub mod Reports
pub mod Plans
