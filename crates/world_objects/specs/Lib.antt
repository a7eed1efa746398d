pub mod Props
pub mod Lists
pub mod Links
pub mod Packed
pub mod Objects
