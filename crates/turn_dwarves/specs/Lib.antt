pub mod Band
pub mod Dwarves
pub mod Knives
pub mod Lines
pub mod Moving
pub mod Pirate
pub mod Waking
pub mod Ahead
