pub mod Head
pub mod Machine
pub mod FinalState
pub mod Transcript
pub mod Moments
pub mod Watch
