pub mod EditLog
pub mod Inner
