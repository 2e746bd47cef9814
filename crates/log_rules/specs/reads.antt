pub mod ReadTrims
