pub mod Key
pub mod Rule
pub mod Worked
