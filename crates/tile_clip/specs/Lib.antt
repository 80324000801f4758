pub mod Bounds
pub mod Given
pub mod Outlines
pub mod Parts
pub mod Pieces
pub mod Steady
pub mod Worked
