pub mod Answers
pub mod Cursors
pub mod Items
pub mod Laws
pub mod Objects
pub mod Steps
pub mod Winners
pub mod Worked
