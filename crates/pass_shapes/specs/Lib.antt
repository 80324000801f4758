pub mod Stores
pub mod Labels
pub mod Pieces
pub mod EmitLaws
pub mod Keeping
pub mod Kept
pub mod Emitting
