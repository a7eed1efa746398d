pub mod Clocks
pub mod FirstClock
pub mod Lamp
pub mod Repository
pub mod Hints
