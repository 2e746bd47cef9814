pub mod CoordinatorCrashes
