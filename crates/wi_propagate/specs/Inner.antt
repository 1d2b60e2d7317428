-- Words of the code's own contracts, and readers that laws tie to the definitions. Nothing here needs belief.
pub mod Plain
pub mod Cones
pub mod Entries
pub mod Keeping
pub mod Owes
pub mod Planned
pub mod Stamps
pub mod Flushing
pub mod Standing
