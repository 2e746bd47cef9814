mod Standings
pub mod Namings
mod Words
mod Climbs
pub mod TrueAnswers
mod Giving
pub mod Sound
