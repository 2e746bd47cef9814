pub mod LeafInputs
pub mod CoordinatorInputs
pub mod Steps
pub mod Operators
pub mod CoordinatorRows
pub mod CoordinatorReactions
