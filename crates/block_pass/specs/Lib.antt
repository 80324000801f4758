pub mod Meaning
pub mod Loading
pub mod Orders
pub mod Steps
pub mod Passes
