pub mod RoomLemmas
pub mod SheetLemmas
pub mod ChangeLemmas
pub mod EditLemmas
pub mod NextRoom
pub mod ContentsLemmas
pub mod Words
pub mod IndexLemmas
