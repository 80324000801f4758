pub mod Again
pub mod Items
pub mod Messages
pub mod Varints
