-- A formula filled into another cell: the relative parts of its references move with it.
use Rattle.std.specs.Prelude.{◌≡◌, ℕ, ℤ, pos, negsuc, ◌+ℤ◌, ◌*◌, Bool, true, false, nat_lt, if◌then◌else◌, List, [], ◌∷◌, Option, Some, None, option_map, Result, Ok, Err}
use Rattle.wi_fraction.specs.Arithmetic.{◌>>=◌}
use Rattle.wi_values.specs.Address.{columns, rows, place, row_of, column_of}
use Rattle.wi_parser.specs.declared.expr.Reference.{Reference}
use Rattle.wi_parser.specs.declared.shift.ShiftFault.{ShiftFault}
use Rattle.wi_parser.specs.declared.shift.ShiftFault.TheVariants.{LeavesSheet, Memory}
use Rattle.wi_parser.specs.Tree.{Tree, Trees, cell, rectangle, parenthesized, signed, percent, binary, what_if, call, no_trees, more_trees}

-- a row or a column, if a sheet with so many has it
abbrev pub within : ℕ → ℤ → Option ℕ
within size (pos k) = if nat_lt k size then Some k else None
within size (negsuc k) = None

-- an absolute part stays, and a relative one moves, where it does not leave the sheet
abbrev pub part : Bool → ℕ → ℤ → ℕ → Option ℕ
part true size by k = Some k
part false size by k = within size (pos k +ℤ by)

-- a reference to a cell of the sheet
abbrev pub in_sheet : Reference → Bool
in_sheet r = nat_lt r.at (rows * columns)

-- ---- trees

module _ (f : Reference → Option Reference) where
  abbrev pub mapped_pairs : List (Reference × Reference) → Option (List (Reference × Reference))
  mapped_pairs [] = Some []
  mapped_pairs (q ∷ qs) = do
    input ← f q.0
    replacement ← f q.1
    others ← mapped_pairs qs
    Some ((input, replacement) ∷ others)

  abbrev mutual
    -- the tree with what f has for each reference, if it has that for all
    pub mapped_tree : Tree → Option Tree
    mapped_tree (cell r) = option_map cell (f r)
    mapped_tree (rectangle c) = do
      one ← f c.one
      other ← f c.other
      Some (rectangle (record { one = one; other = other }))
    mapped_tree (parenthesized t) = option_map parenthesized (mapped_tree t)
    mapped_tree (signed s t) = option_map (signed s) (mapped_tree t)
    mapped_tree (percent t) = option_map percent (mapped_tree t)
    mapped_tree (binary op t u) = do
      left ← mapped_tree t
      right ← mapped_tree u
      Some (binary op left right)
    mapped_tree (what_if r pairs) = do
      formula_cell ← f r
      others ← mapped_pairs pairs
      Some (what_if formula_cell others)
    mapped_tree (call g ts) = option_map (call g) (mapped_trees ts)
    mapped_tree t = Some t

    pub mapped_trees : Trees → Option Trees
    mapped_trees no_trees = Some no_trees
    mapped_trees (more_trees t ts) = do
      first ← mapped_tree t
      others ← mapped_trees ts
      Some (more_trees first others)

-- ---- so far down and to the right

module _ (down right : ℤ) where
  abbrev pub shifted_reference : Reference → Option Reference
  shifted_reference r = do
    row ← part r.row_is_absolute rows down (row_of r.at)
    column ← part r.column_is_absolute columns right (column_of r.at)
    Some (record r { at = place row column })

  abbrev pub shifted : Tree → Option Tree
  shifted t = mapped_tree shifted_reference t

-- ---- what the calls answer

-- what is found is answered, and LeavesSheet where nothing is; or Memory, which says nothing of it
abbrev pub ShiftsTo : Option Tree → Result Tree ShiftFault → Type 0
ShiftsTo found (Ok t) = found ≡ Some t
ShiftsTo found (Err LeavesSheet) = found ≡ None
ShiftsTo found (Err Memory) = Unit {0}
