-- What a line of a band has: tiles of 16 lines by 4 columns, in order of their groups of columns.
use Rattle.std.specs.Prelude.{ℕ, ◌+◌, ◌*◌, ◌/◌, ◌%◌, List, Option, None, slice_index_or}
use Rattle.wi_tiles.specs.Inner.Parts.{at_part}
use Rattle.wi_tiles.specs.Inner.Sorted.{find}

-- what a tile has at a bit
abbrev pub slot : {V : Type 0} → List (Option V) → ℕ → Option V
slot s b = slice_index_or s b None

-- what a line has at a column
abbrev pub cell : {V : Type 0} → List (ℕ × List (Option V)) → ℕ → ℕ → Option V
cell ts line c = at_part slot (find (c / 4) ts) (4 * line + c % 4)
