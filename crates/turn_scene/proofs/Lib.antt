pub mod Meanings
pub mod FittingRows
pub mod NotedRows
