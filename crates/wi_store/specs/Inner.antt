-- Words of the code's own contracts, and readers that laws tie to the definitions. Nothing here needs belief.
pub mod Admission
pub mod Indexes
pub mod Rooms
