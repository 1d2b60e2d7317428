-- Entries of a data table that are asked for.
use Rattle.std.specs.Prelude.{ℕ, List, All}
use Rattle.wi_parser.specs.Sheet.{Sheet}
use Rattle.wi_engine.specs.Inner.Frames.{MayBeRead}
use Rattle.wi_engine.specs.Inner.MemoState.{IsMemoOf, MemoState}

-- An entry may be asked for: its formula cell and its replacement cells may be read.
pub record MayBeAsked (s : Sheet) (m : MemoState) (f : ℕ) (pairs : List (ℕ × ℕ)) : Type 0 where
  pub memo : IsMemoOf s m
  pub formula_cell : MayBeRead s m f
  pub replacing : All (λ x. MayBeRead s m x.1) pairs
