pub mod LawLemmas
pub mod Noted
