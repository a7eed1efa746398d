pub mod Facts
pub mod StateText
pub mod Things
pub mod Within
pub mod Words
