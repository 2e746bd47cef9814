pub mod Sayings
pub mod OwnNames
pub mod CaseSayings
pub mod LastOpened
pub mod Trimmed
pub mod Branches
pub mod ManagerTrims
