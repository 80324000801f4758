pub mod Distinct
pub mod Finished
pub mod Hashes
pub mod Index
pub mod Listed
pub mod Spool
pub mod Writing
