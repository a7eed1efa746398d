pub mod Stops
pub mod Parts
pub mod Places
pub mod Edges
pub mod Captions
pub mod Map
