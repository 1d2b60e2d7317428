-- What the representation means: no public clause cites it.
pub mod Cells
pub mod Changes
pub mod Columns
pub mod Entries
pub mod Lines
pub mod Next
pub mod Parts
pub mod Sorted
pub mod Tile
pub mod Turns
pub mod Within
