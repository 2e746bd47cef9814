pub mod LeafTurns
pub mod Written
pub mod Steps
pub mod CoordinatorTurns
