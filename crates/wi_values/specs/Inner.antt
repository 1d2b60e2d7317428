-- Words of the code's own contracts, and readers that laws tie to the definitions. Nothing here needs belief.
pub mod Cells
pub mod Import
pub mod Names
pub mod Same
pub mod Shared
