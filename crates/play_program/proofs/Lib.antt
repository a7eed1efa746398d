pub mod CallLemmas
pub mod MakeLemmas
pub mod ReadLemmas
pub mod SourceLemmas
pub mod TakenLemmas
