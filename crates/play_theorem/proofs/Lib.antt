pub mod AsPlayed
