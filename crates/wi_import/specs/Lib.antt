pub mod Fields
pub mod Imports
pub mod Inner
