mod FinalStateLemmas
pub mod Lists
mod Shown
mod TranscriptLemmas
mod WatchLemmas
pub mod WatchedLemmas
mod Visits
