pub mod CellsByPlace
pub mod Searches
pub mod Lines
mod Meeting
mod Signs
pub mod FirstLines
pub mod Finding
pub mod Asked
pub mod Chains
pub mod NoValues
pub mod Axes
pub mod AllPlaces
pub mod Counts
pub mod AsValue
pub mod Extents
pub mod InOrder
pub mod ProductEnds
pub mod Referring
pub mod Sums
pub mod Zeros
pub mod Words
