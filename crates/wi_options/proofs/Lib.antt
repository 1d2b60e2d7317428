pub mod EntryLemmas
pub mod OptionLemmas
pub mod KeptLemmas
pub mod StatedLemmas
