pub mod ChainLaws
pub mod NamingLaws
pub mod Explaining
pub mod Texts
pub mod TrueReports
pub mod Reporting
