-- Words of the code's own contracts, and readers that laws tie to the definitions. Nothing here needs belief.
pub mod Repr
pub mod Around
pub mod Index
pub mod Rising
pub mod Singles
pub mod Telling
