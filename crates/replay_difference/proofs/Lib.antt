pub mod DueGuards
pub mod ScriptLemmas
pub mod WalkLemmas
pub mod WalkSteps
