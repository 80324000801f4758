pub mod Entries
pub mod Floats
pub mod InTurn
pub mod Known
pub mod Looking
pub mod Sums
pub mod TileFaults
pub mod Walking
