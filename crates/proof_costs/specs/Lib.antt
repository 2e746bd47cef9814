pub mod Costs
pub mod Journals
