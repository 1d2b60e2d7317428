pub mod Reaching
pub mod Reached
pub mod Inner
