pub mod AcceptedLogs
mod DoubtLemmas
mod FinishLemmas
pub mod InputLemmas
pub mod JudgeLemmas
pub mod LogLemmas
pub mod LogProgress
pub mod ScriptLemmas
pub mod SourceLemmas
pub mod StageLemmas
mod TwoLogLemmas
