pub mod Ends
pub mod Greatest
pub mod Parts
pub mod Signed
pub mod Stack
