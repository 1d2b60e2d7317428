pub mod Callers
pub mod Keeping
pub mod Keys
pub mod TextLens
pub mod Went
