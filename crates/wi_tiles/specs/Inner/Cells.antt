-- Where a cell stands: in a page of 256 bands, a band of 16 rows, and a tile of 4 columns.
use Rattle.std.specs.Prelude.{ℕ, ◌+◌, ◌*◌, ◌/◌, ◌%◌, Bool, ◌&&◌, nat_le, List, Option}
use Rattle.wi_values.specs.Address.{Area, row_of, column_of, is_within}
use Rattle.wi_tiles.specs.Inner.Lines.{slot}
use Rattle.wi_tiles.specs.Inner.Parts.{at_window}
use Rattle.wi_tiles.specs.Inner.Sorted.{at_sorted}

-- the digits of a cell: its page, its band, its group of columns, and its place in a tile
abbrev pub path_of : ℕ → ℕ
path_of c = row_of c / 4096 + 256 * (row_of c / 16 % 256 + 256 * (column_of c / 4 + 4096 * (row_of c % 16 * 4 + column_of c % 4)))

-- what bands, pages and all pages are seen as
abbrev pub Band : Type 0 → Type 0
Band V = List (ℕ × List (Option V))

abbrev pub Page : Type 0 → Type 0
Page V = ℕ × List (Band V)

abbrev pub Pages : Type 0 → Type 0
Pages V = ℕ × List (Page V)

-- what the pages have at a cell
abbrev pub at_cell : {V : Type 0} → Pages V → ℕ → Option V
at_cell w c = at_window (at_window (at_sorted slot)) w (path_of c)

-- the cell lies in the rectangle, at this cell or after it
abbrev pub is_ahead : Area → ℕ → ℕ → Bool
is_ahead r from a = nat_le from a && is_within r a
