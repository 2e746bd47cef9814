pub mod Messages
pub mod CascadedSteps
