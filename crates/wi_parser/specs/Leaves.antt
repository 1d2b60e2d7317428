-- The leaves of a formula's tree that name cells.
use Rattle.std.specs.Prelude.{List, [], ◌∷◌, ◌++◌}
use Rattle.wi_parser.specs.declared.expr.Corners.{Corners}
use Rattle.wi_parser.specs.declared.expr.Reference.{Reference}
use Rattle.wi_parser.specs.Tree.{Tree, Trees, cell, rectangle, parenthesized, signed, percent, binary, what_if, call, no_trees, more_trees}

-- a what-if has its formula cell, and each input with its replacement cell
pub data Leaf : Type 0 where
  cell_leaf : Reference → Leaf
  rectangle_leaf : Corners → Leaf
  what_if_leaf : Reference → List (Reference × Reference) → Leaf

abbrev mutual
  -- from the left
  pub leaves : Tree → List Leaf
  leaves (cell r) = cell_leaf r ∷ []
  leaves (rectangle c) = rectangle_leaf c ∷ []
  leaves (parenthesized t) = leaves t
  leaves (signed s t) = leaves t
  leaves (percent t) = leaves t
  leaves (binary op t u) = leaves t ++ leaves u
  leaves (what_if f pairs) = what_if_leaf f pairs ∷ []
  leaves (call f ts) = all_leaves ts
  leaves t = []

  pub all_leaves : Trees → List Leaf
  all_leaves no_trees = []
  all_leaves (more_trees t ts) = leaves t ++ all_leaves ts
