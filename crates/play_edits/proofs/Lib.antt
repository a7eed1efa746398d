pub mod EditLemmas
pub mod GuardLemmas
pub mod GuardedLemmas
mod NearestLemmas
pub mod MetLemmas
mod NoteLemmas
pub mod SayableLemmas
mod StandingLemmas
pub mod EndLemmas
pub mod UndoLemmas
pub mod ViewLemmas
