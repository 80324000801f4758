pub mod Greatest
pub mod Laws
pub mod NodeLaws
pub mod Order
pub mod WayLaws
pub mod Worked
