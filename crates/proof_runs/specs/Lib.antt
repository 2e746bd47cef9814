pub mod Laws
pub mod worlds
