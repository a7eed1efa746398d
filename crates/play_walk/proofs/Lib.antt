pub mod JsonLemmas
pub mod Moving
pub mod WalkLemmas
