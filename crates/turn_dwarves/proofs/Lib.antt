pub mod Firsts
pub mod Treasures
