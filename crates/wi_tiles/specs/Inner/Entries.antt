-- What the cells have, as a list of entries in row-major order.
use Rattle.std.specs.Prelude.{ℕ, zero, suc, List, [], ◌∷◌, Option, Some, None}
use Rattle.wi_tiles.specs.Entries.{CellEntries}
use Rattle.wi_tiles.specs.Inner.Cells.{Pages, at_cell}

-- how many cells there are: rows times columns
unfoldable pub cells : ℕ
cells = 17179869184

-- an entry for what a cell has, and others
abbrev pub with_entry : {V : Type 0} → ℕ → Option V → List (ℕ × V) → List (ℕ × V)
with_entry c None es = es
with_entry c (Some v) es = (c, v) ∷ es

-- the entries of so many cells from one on
abbrev pub entries_from : {V : Type 0} → (ℕ → Option V) → ℕ → ℕ → List (ℕ × V)
entries_from f c zero = []
entries_from f c (suc n) = with_entry c (f c) (entries_from f (suc c) n)

-- the entries of all cells
abbrev pub entries_of : {V : Type 0} → Pages V → List (ℕ × V)
entries_of w = entries_from (λ c. at_cell w c) 0 cells

-- the map with these entries
abbrev pub map_of : {V : Type 0} → List (ℕ × V) → CellEntries V
map_of es = record { entries = es }
