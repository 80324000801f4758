pub mod Appending
pub mod Generating
pub mod Looking
pub mod Numerals
pub mod Statuses
pub mod Trying
pub mod WordCounts
