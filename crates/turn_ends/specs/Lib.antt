pub mod Endings
pub mod Questions
pub mod Begin
pub mod Placing
pub mod Score
