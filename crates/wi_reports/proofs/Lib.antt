pub mod RowLemmas
pub mod TextLemmas
pub mod TableLemmas
pub mod CompareLemmas
pub mod ChangeLemmas
pub mod Differences
pub mod CostLemmas
pub mod Words
