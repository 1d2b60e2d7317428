pub mod Operators
pub mod Meaning
pub mod Counts
pub mod Wants
pub mod Evaluation
pub mod Inner
pub mod Placed
