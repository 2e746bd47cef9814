pub mod ManagerSteps
pub mod ManagerProcess
