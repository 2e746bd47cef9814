pub mod ParentRows
