pub mod Folds
pub mod FrameSteps
pub mod Reading
pub mod Reasons
pub mod Scanning
pub mod WorkedCases
