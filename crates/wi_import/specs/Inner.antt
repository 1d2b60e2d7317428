-- Words of the code's own contracts, and a function that laws tie to the definitions. Nothing here needs belief.
pub mod Reading
pub mod Records
