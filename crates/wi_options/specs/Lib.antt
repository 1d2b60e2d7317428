pub mod Stated
pub mod Refused
pub mod Status
pub mod Inner
