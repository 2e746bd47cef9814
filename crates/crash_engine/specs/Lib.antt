pub mod Audits
pub mod Origins
pub mod Points
pub mod Settles
pub mod Trials
pub mod Crashes
pub mod Failures
pub mod Texts
