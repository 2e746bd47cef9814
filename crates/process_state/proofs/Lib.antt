pub mod Alike
pub mod AlikeTurns
pub mod Opened
pub mod Numbers
pub mod Lefts
pub mod Wrote
