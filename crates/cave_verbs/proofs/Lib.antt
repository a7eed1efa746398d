pub mod Falls
pub mod Listed
pub mod Near
pub mod Numbered
