pub mod Rows
pub mod Table
pub mod Contents
pub mod Compare
pub mod Looks
pub mod Inner
pub mod Changes
