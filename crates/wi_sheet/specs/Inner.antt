-- Words of the code's own contracts, and readers that laws tie to the definitions. Nothing here needs belief.
pub mod Asked
pub mod Rank
pub mod ReadCells
pub mod ReadOrder
pub mod Spending
