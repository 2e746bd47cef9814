pub mod Audits
