pub mod Pictures
pub mod Pending
pub mod Sessions
pub mod Roster
pub mod Inner
