pub mod Difference
pub mod ScriptTo
pub mod Walk
