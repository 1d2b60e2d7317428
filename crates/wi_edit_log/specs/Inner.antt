-- Words of the code's own contracts. Nothing here needs belief.
pub mod First
pub mod Rising
pub mod Named
pub mod Narrow
pub mod Edits
pub mod Noted
