-- Words of the code's own contracts. Nothing here needs belief.
pub mod Calls
pub mod Named
pub mod Parts
