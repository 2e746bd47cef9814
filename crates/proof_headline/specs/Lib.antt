pub mod ProcessLaws
pub mod CoordinatorLaws
pub mod auditor
