pub mod Told
pub mod Made
pub mod Reports
