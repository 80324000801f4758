pub mod File
pub mod Memory
pub mod Plan
pub mod Sink
pub mod Source
pub mod Spill
pub use Rattle.tb_types.specs.Counts
