pub mod RunLaws
pub mod ListLaws
pub mod LogNameLaws
pub mod NameTests
pub mod Equality
