mod Steps
mod WayLemmas
mod WordLemmas
