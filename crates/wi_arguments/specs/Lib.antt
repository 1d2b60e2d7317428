pub mod Assignment
pub mod Filled
pub mod First
pub mod Arguments
pub mod Walk
