pub mod Dismissal
pub mod Quiet
pub mod Steps
pub mod Trails
