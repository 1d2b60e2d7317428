-- Words of the code's own contracts. Nothing here needs belief.
pub mod Lines
pub mod Meeting
pub mod Axis
pub mod Search
pub mod Finding
pub mod Giving
pub mod Laws
pub mod Places
pub mod Products
pub mod Sums
