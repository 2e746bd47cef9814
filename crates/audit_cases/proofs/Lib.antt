pub mod KindLaws
pub mod NoteLaws
pub mod OrderLaws
pub mod FirstLaws
mod SayingLaws
pub mod OwnLaws
