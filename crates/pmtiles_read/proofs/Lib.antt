pub mod Backing
pub mod Halving
pub mod Opening
pub mod Walking
pub mod Within
