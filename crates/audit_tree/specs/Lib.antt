pub mod Reports
pub mod Tables
pub mod Truths
