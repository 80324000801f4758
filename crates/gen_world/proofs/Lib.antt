pub mod Drawn
pub mod Draws
pub mod FrameList
pub mod Heads
pub mod SameWords
pub mod Sizes
pub mod Texts
pub mod WorkedCases
