pub mod FlatRuns
pub mod TreeRuns
pub mod DoubtRuns
pub mod SecondPlays
pub mod SecondRuns
pub mod CostRuns
pub mod wrong
pub mod Histories
