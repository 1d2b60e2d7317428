-- The replacements of cells that a cell reaches, by cones: the dependents of each replaced cell at any remove.
use Rattle.std.specs.Prelude.{ℕ, Bool, false, Option, Some, None}
use Rattle.std.specs.Ordering.{nat_cmp}
use Rattle.std.specs.BTreeMap.{BTreeMap, get}
use Rattle.std.specs.BTreeSet.{BTreeSet, contains}
use Rattle.wi_values.specs.declared.replacement.Replacement.{Replacement}

-- whether a cone is there and has the cell c
abbrev pub has_cell : Option (BTreeSet ℕ) → ℕ → Bool
has_cell None c = false
has_cell (Some cone) c = contains nat_cmp cone c

-- the cone of the address a has the cell c
abbrev pub cone_has : BTreeMap ℕ (BTreeSet ℕ) → ℕ → ℕ → Bool
cone_has cones a c = has_cell (get nat_cmp cones a) c

-- the cone of the replaced address has the cell
abbrev pub is_reached : BTreeMap ℕ (BTreeSet ℕ) → ℕ → Replacement → Bool
is_reached cones c r = cone_has cones r.at c
