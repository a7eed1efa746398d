pub mod Cave
pub mod Values
