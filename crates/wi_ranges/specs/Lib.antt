pub mod Blocks
pub mod Bag
pub mod Laws
pub mod Inner
