pub mod Changing
pub mod Finding
pub mod Tickets
pub mod Given
pub mod Lent
pub mod Standings
mod Unknowns
pub mod Taken
pub mod Framed
pub mod Restores
pub mod OwnCases
pub mod Rebuilds
