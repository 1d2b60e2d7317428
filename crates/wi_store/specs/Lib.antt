pub mod Store
pub mod Inner
