pub mod Answers
pub mod Blob
pub mod Fields
pub mod Frames
pub mod Header
pub mod Kinds
pub mod Messages
pub mod Worked
