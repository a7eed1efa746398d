pub mod DwarfLemmas
pub mod EntryLemmas
pub mod FactEquality
pub mod FactLemmas
pub mod FactsRead
pub mod LineLemmas
pub mod HintLemmas
pub mod ListedLemmas
pub mod ObjectLemmas
pub mod PlaceLemmas
pub mod Reading
pub mod StateLemmas
pub mod VisitLemmas
pub mod WithinLemmas
mod WordLemmas
