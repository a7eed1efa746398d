pub mod Over
pub mod Reach
pub mod Begun
pub mod Countdown
pub mod Orders
pub mod Most
pub mod Sums
