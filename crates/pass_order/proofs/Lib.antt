pub mod Times
pub mod Doing
pub mod InFile
pub mod Walking
pub mod Following
pub mod Turning
pub mod WholePasses
pub mod Planning
