-- The first cell of a rectangle that has something.
use Rattle.std.specs.Prelude.{◌≡◌, ℕ, ◌/◌, ◌%◌, ◌<◌, ◌≤◌, true, Option, Some, None, IsSome}
use Rattle.wi_values.specs.Address.{Area, place, row_of, column_of, is_within}
use Rattle.wi_tiles.specs.Inner.Cells.{Pages, Page, Band, at_cell, is_ahead}
use Rattle.wi_tiles.specs.Inner.Lines.{cell}
use Rattle.wi_tiles.specs.Inner.Parts.{part_from}

-- the band of a row
abbrev pub in_page : {V : Type 0} → Option (Page V) → ℕ → Option (Band V)
in_page None i = None
in_page (Some p) i = part_from p i

abbrev pub band_at : {V : Type 0} → Pages V → ℕ → Option (Band V)
band_at w r = in_page (part_from w (r / 4096)) (r / 16 % 256)

-- what a band has in a line and a column
abbrev pub in_band : {V : Type 0} → Option (Band V) → ℕ → ℕ → Option V
in_band None line k = None
in_band (Some ts) line k = cell ts line k

-- the first cell of the rectangle, at a cell or after it, that has something
pub record IsNext {V : Type 0} (w : Pages V) (area : Area) (from a : ℕ) : Type 0 where
  pub there : IsSome (at_cell w a)
  pub ahead : is_ahead area from a ≡ true
  pub first : (b : ℕ) → is_ahead area from b ≡ true → b < a → at_cell w b ≡ None

-- nothing of the rectangle, at a cell or after it, has anything
abbrev pub HasNoneFrom : {V : Type 0} → Pages V → Area → ℕ → Type 0
HasNoneFrom w area from = (c : ℕ) → is_ahead area from c ≡ true → at_cell w c ≡ None

-- and nothing of it in the rows above one
abbrev pub HasNoneAbove : {V : Type 0} → Pages V → Area → ℕ → ℕ → Type 0
HasNoneAbove w area from row = (c : ℕ) → is_ahead area from c ≡ true → row_of c < row → at_cell w c ≡ None

-- the rectangle has nothing in the rows from one up to another
abbrev pub HasNoneBetween : {V : Type 0} → Pages V → Area → ℕ → ℕ → Type 0
HasNoneBetween w area top below = (c : ℕ) → is_within area c ≡ true → top ≤ row_of c → row_of c < below → at_cell w c ≡ None

-- a row and a column of the rectangle, or below it, before which nothing of it comes from a cell on
pub record IsStart (area : Area) (from row column : ℕ) : Type 0 where
  pub top : row_of area.first ≤ row
  pub left : column_of area.first ≤ column
  pub right : column ≤ column_of area.last
  pub after : from ≤ place row column
  pub all : (b : ℕ) → is_ahead area from b ≡ true → place row column ≤ b
