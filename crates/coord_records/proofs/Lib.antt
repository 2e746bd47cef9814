pub mod Summaries
pub mod CaseTables
pub mod Readings
pub mod Inquiries
pub mod Progress
pub mod Remembering
