pub mod Again
pub mod CleanRings
pub mod Drawing
pub mod PathSteps
pub mod PointSteps
pub mod RingSteps
pub mod Steps
pub mod WorkedShapes
