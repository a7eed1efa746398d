pub mod Chunks
pub mod Draft
pub mod Edit
pub mod Faults
pub mod Leaves
pub mod LineBytes
pub mod LineText
pub mod Outcome
