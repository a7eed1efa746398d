pub mod Drawing
pub mod Walking
pub mod Others
pub mod Summing
pub mod ScoreWalking
