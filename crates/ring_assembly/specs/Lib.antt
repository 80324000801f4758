pub mod Chains
pub mod Counts
pub mod Envelopes
pub mod Nesting
pub mod Rings
pub mod Search
pub mod Sides
pub mod Worked
