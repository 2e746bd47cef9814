pub mod Answers
pub mod Finders
pub mod Texts
pub mod Sql
pub mod Inputs
pub mod Reports
pub mod Truths
