pub mod KeptSheet
pub mod Right
pub mod Inner
