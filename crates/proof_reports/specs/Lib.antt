pub mod Findings
pub mod Mismatches
pub mod SinceOpened
pub mod SecondRuns
