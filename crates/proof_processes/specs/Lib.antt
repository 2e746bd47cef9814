pub mod Marks
pub mod Lasts
pub mod Owns
pub mod WorldHolds
pub mod ProcessSteps
pub mod Numbers
pub mod CaseOrder
pub mod RootBegins
