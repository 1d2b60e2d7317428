-- The rectangle around some cells.
use Rattle.std.specs.Prelude.{◌≡◌, ℕ, Bool, true, false, Option, Some, None}
use Rattle.std.specs.Ordering.{nat_cmp}
use Rattle.std.specs.BTreeSet.{BTreeSet, contains}
use Rattle.wi_values.specs.Address.{Area, is_within}

-- each cell of the set is in the rectangle
abbrev pub AreWithin : Area → BTreeSet ℕ → Type 0
AreWithin r cells = (c : ℕ) → contains nat_cmp cells c ≡ true → is_within r c ≡ true

-- the cell is in the rectangle, if there is one
abbrev pub is_in_part : Option Area → ℕ → Bool
is_in_part None c = false
is_in_part (Some r) c = is_within r c
