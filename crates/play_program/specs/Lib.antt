pub mod Calls
pub mod Ends
pub mod Files
pub mod Head
pub mod Sources
