pub mod EmptyLogs
pub mod Holdings
pub mod RoleKinds
pub mod LastRecords
pub mod Refusals
pub mod Same
pub mod Reopened
