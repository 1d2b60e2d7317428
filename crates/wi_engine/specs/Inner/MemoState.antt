-- What a memory remembers of the values of a sheet's cells. It is made for one question, and ends with it.
use Rattle.std.specs.Prelude.{◌≡◌, ◌||◌, ℕ, Bool, true, List, Option, is_some, IfSome}
use Rattle.wi_values.specs.declared.value.Value.{Value}
use Rattle.wi_values.specs.declared.replacement.Replacement.{Replacement}
use Rattle.wi_parser.specs.Sheet.{Sheet, content_of, put_all, has_formula}
use Rattle.wi_parser.specs.Reads.{content_reads}
use Rattle.wi_cache.specs.declared.key.Key.{Key}
use Rattle.wi_sheet.specs.CellValue.{cell_value}

pub record MemoState : Type 0 where
  -- the sheet whose values are remembered
  pub sheet : Sheet
  -- the cells for which keys are made: all of them, or those that the question reaches
  pub covers : ℕ → Bool
  -- A part of a cell's key: values under its other generations are stale. Edits raise it; no question does
  -- (`IsSameBeside`).
  pub generation : ℕ → ℕ
  -- the value that is remembered of a cell under replacements; unless it is found, it may be forgotten
  pub known : ℕ → List Replacement → Option Value
  -- whether it is found: it is remembered as long as the memory lives (`stays` of `Memo::keep`). Where
  -- values are cached, it is kept or was given up in this question, so that what is cached is found from the start.
  pub found : ℕ → List Replacement → Bool
  -- whether it is kept for longer than the memory lives; it may be evicted where there is no room
  pub kept : ℕ → List Replacement → Bool
  -- whether an entry stands under a key, also under a stale one, which takes up a place and is never looked up
  pub stands : Key → Bool
  -- how many places for values that are kept are free
  pub space : ℕ
  -- and how many there are in all
  pub capacity : ℕ
  -- The number of the last edit. That no generation is past it says who makes the memory (`past` of `IsKeepingRight`,
  -- in `wi_propagate`); here it is only left as it is.
  pub latest : ℕ

-- each value that is remembered is the cell's
abbrev pub AreKnownRight : Sheet → (ℕ → List Replacement → Option Value) → Type 0
AreKnownRight s known = (c : ℕ) (w : List Replacement) → IfSome (known c w) (λ v. v ≡ cell_value (put_all s w) c)

-- of a cell that is covered, each cell that it reads is covered where it has a formula
abbrev pub IsClosedUnderReads : Sheet → (ℕ → Bool) → Type 0
IsClosedUnderReads s covers = (c d : ℕ) → covers c ≡ true → content_reads (content_of s c) d ≡ true → has_formula (content_of s d) ≡ true → covers d ≡ true

-- what is remembered is what was found and what is kept
abbrev pub IsComplete : MemoState → Type 0
IsComplete m = (c : ℕ) (w : List Replacement) → is_some (m.known c w) ≡ (m.found c w || m.kept c w)

-- what is remembered is so of this sheet
pub record IsMemoOf (s : Sheet) (m : MemoState) : Type 0 where
  pub sheet : m.sheet ≡ s
  pub right : AreKnownRight s m.known
  pub closed : IsClosedUnderReads s m.covers
  pub complete : IsComplete m
