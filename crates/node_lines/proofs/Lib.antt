pub mod FindingLaws
pub mod MessageLaws
