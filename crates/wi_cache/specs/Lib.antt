pub mod Entries
pub mod Hashed
pub mod Inner
