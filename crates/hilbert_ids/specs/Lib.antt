pub mod Curve
pub mod Ids
