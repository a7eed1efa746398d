pub mod Ways
pub mod Regions
pub mod Laws
pub mod Labels
pub mod LabelTexts
pub mod Titles
pub mod WayTexts
