pub mod OwnLines
pub mod Text
