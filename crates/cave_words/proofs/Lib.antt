pub mod Indexes
pub mod Lexicons
pub mod Padding
pub mod WordBytes
pub mod Walks
