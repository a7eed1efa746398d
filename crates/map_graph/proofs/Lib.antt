pub mod DrawnLemmas
pub mod PartLemmas
pub mod StopLemmas
