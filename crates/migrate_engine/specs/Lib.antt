pub mod Migrations
pub mod Laws
