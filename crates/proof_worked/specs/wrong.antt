pub mod WrongSteps
pub mod WrongBodies
pub mod WrongReports
