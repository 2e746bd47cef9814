pub mod Tellings
pub mod Tracing
pub mod Making
pub mod Reporting
