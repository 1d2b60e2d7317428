pub mod Precedents
pub mod Circular
pub mod Reach
pub mod Watched
pub mod Latest
pub mod Edges
pub mod Inner
