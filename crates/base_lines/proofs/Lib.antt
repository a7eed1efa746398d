pub mod Prefixes
pub mod Digits
pub mod Feeds
pub mod FirstLines
pub mod GoodLines
pub mod LogLines
