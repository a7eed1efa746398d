pub mod Parts
pub mod Plays
