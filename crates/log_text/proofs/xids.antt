pub mod BranchLaws
