-- Words of the code's own contracts, and readers that laws tie to the definitions. Nothing here needs belief.
pub mod Forms
pub mod Script
pub mod Data
pub mod Operands
pub mod Reading
pub mod Told
pub mod Turn
