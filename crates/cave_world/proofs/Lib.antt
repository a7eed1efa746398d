pub mod SameGame
pub mod Equality
pub mod Made
pub mod Numbered
