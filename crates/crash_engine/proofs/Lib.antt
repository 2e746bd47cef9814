pub mod PointLaws
pub mod Trying
pub mod Going
pub mod Reports
pub mod Failing
