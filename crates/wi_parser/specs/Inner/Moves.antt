-- Moved references and trees as the code makes them: first it asks whether all stay in the sheet. A law ties them to
-- what is shifted.
use Rattle.std.specs.Prelude.{ℕ, ℤ, Bool, ◌&&◌, List, [], ◌∷◌, map, Option, is_some, unwrap_or}
use Rattle.std.specs.List.{list_all, flat_map}
use Rattle.wi_values.specs.Address.{columns, rows, place, row_of, column_of}
use Rattle.wi_parser.specs.declared.expr.Reference.{Reference}
use Rattle.wi_parser.specs.Shift.{part}
use Rattle.wi_parser.specs.Tree.{Tree, Trees, cell, rectangle, parenthesized, signed, percent, binary, what_if, call, no_trees, more_trees}
use Rattle.wi_parser.specs.Leaves.{Leaf, cell_leaf, rectangle_leaf, what_if_leaf, leaves}

abbrev pub row_moved : ℤ → Reference → Option ℕ
row_moved down r = part r.row_is_absolute rows down (row_of r.at)

abbrev pub column_moved : ℤ → Reference → Option ℕ
column_moved right r = part r.column_is_absolute columns right (column_of r.at)

unfoldable pub stays : ℤ → ℤ → Reference → Bool
stays down right r = is_some (row_moved down r) && is_some (column_moved right r)

-- down and to the right
unfoldable pub moved : ℤ → ℤ → Reference → Reference
moved down right r = record r { at = place (unwrap_or (row_moved down r) 0) (unwrap_or (column_moved right r) 0) }

-- ---- trees

abbrev pub leaf_references : Leaf → List Reference
leaf_references (cell_leaf r) = r ∷ []
leaf_references (rectangle_leaf c) = c.one ∷ c.other ∷ []
leaf_references (what_if_leaf f pairs) = f ∷ flat_map (λ q. q.0 ∷ q.1 ∷ []) pairs

abbrev pub all_references : (Reference → Bool) → Tree → Bool
all_references p t = list_all p (flat_map leaf_references (leaves t))

abbrev mutual
  pub map_references : (Reference → Reference) → Tree → Tree
  map_references f (cell r) = cell (f r)
  map_references f (rectangle c) = rectangle (record { one = f c.one; other = f c.other })
  map_references f (parenthesized t) = parenthesized (map_references f t)
  map_references f (signed s t) = signed s (map_references f t)
  map_references f (percent t) = percent (map_references f t)
  map_references f (binary op t u) = binary op (map_references f t) (map_references f u)
  map_references f (what_if r pairs) = what_if (f r) (map (λ q. (f q.0, f q.1)) pairs)
  map_references f (call g ts) = call g (map_references_in f ts)
  map_references f t = t

  pub map_references_in : (Reference → Reference) → Trees → Trees
  map_references_in f no_trees = no_trees
  map_references_in f (more_trees t ts) = more_trees (map_references f t) (map_references_in f ts)
