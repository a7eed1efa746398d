pub mod EditFlaw
pub mod Line
pub mod Script
pub mod Guards
pub mod Views
pub mod Malformed
pub mod ScriptText
