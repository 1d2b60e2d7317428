-- Words of the code's own contracts. Nothing here needs belief.
pub mod Texts
