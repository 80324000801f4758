pub mod Division
pub mod Heights
pub mod Knots
pub mod Terms
