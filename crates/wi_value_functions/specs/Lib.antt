pub mod NoValues
pub mod Applied
pub mod Inner
