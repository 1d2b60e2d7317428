-- Cells without a content.
pub use Rattle.wi_sheet.proofs.EmptyCells.{shows_nothing, has_none}
