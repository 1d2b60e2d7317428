pub mod Entries
pub mod Rooms
pub mod Inner
