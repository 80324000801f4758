pub mod Kept
pub mod Least
pub mod Taken
pub mod Found
pub mod Told
