pub mod Json
pub mod Objects
pub mod Figures
pub mod Step
pub mod Walk
