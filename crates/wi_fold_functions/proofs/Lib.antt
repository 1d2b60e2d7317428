pub mod Arguments
pub mod Choices
pub mod Counting
pub mod Steps
pub mod Sums
pub mod Words
