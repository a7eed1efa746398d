pub mod Betweens
pub mod ChunkLemmas
pub mod Groups
pub mod Inverses
pub mod Lines
pub mod LogAfterLemmas
pub mod Makings
pub mod MarginLemmas
pub mod NewLineLemmas
pub mod OutcomeLemmas
mod DraftLemmas
