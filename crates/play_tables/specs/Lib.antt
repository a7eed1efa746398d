pub mod Columns
pub mod Draws
pub mod Events
pub mod ScoreRows
pub mod ScoreTable
pub mod Differences
pub mod ItemRow
