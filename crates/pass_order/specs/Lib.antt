pub mod Turns
pub mod Whole
pub mod Orders
pub mod Driven
pub mod Holding
pub mod Laws
pub mod Planned
pub mod Worked
