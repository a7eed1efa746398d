pub mod LawLemmas
pub mod MoreLogsLemmas
pub mod Reaching
pub mod RowMarkLemmas
pub mod Telling
