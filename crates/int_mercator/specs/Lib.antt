pub mod Cosine
pub mod Quarter
pub mod Places
