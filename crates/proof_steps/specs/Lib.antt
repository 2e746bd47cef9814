pub mod children
pub mod cascades
pub mod crashes
pub mod parents
