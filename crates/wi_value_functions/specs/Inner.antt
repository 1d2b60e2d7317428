-- Words of the code's own contracts. Nothing here needs belief.
pub mod Both
pub mod Counts
pub mod Fractions
pub mod Outcome
pub mod Gives
pub mod Rows
