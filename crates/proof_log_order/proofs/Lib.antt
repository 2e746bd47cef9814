pub mod Follows
pub mod Names
pub mod Ranks
pub mod LogsRead
pub mod Reopens
