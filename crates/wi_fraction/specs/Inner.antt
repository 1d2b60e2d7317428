-- Words of the code's own contracts, and readers that laws tie to the definitions. Nothing here needs belief.
pub mod Bounds
pub mod Halves
pub mod Places
pub mod Reading
pub mod Signs
pub mod Totals
pub mod Words
