-- Words of the code's own contracts. Nothing here needs belief.
pub mod Editing
pub mod Calls
pub mod Sound
pub mod Switch
