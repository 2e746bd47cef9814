pub mod Sinces
pub mod RootCommits
pub mod RootLines
pub mod Naming
pub mod Verdicts
pub mod Climb
mod Endings
pub mod Decisions
pub mod Mismatches
pub mod Audit
