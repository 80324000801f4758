pub mod Curves
pub mod Numbers
pub mod Tiles
