pub mod AreaLemmas
pub mod FieldLemmas
pub mod ImportLemmas
pub mod Rows
pub mod Words
