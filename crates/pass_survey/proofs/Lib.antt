pub mod Keeping
pub mod Valid
pub mod Leasts
pub mod Finding
pub mod Rising
pub mod Arranging
pub mod Told
