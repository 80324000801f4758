pub mod Answers
pub mod Attributes
pub mod Check
pub mod Counted
pub mod Due
pub mod Rows
pub mod Show
pub mod Spans
