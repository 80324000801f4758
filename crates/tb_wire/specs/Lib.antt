pub mod Again
pub mod Field
pub mod Items
pub mod Message
pub mod Varint
