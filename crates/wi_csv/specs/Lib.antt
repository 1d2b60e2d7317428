pub mod Row
pub mod Records
pub mod Laws
pub mod Inner
