-- The cells of a set that lie ahead.
use Rattle.std.specs.Prelude.{◌≡◌, ◌≤◌, ℕ, true}
use Rattle.std.specs.Ordering.{nat_cmp}
use Rattle.std.specs.BTreeSet.{BTreeSet, contains}
use Rattle.wi_values.specs.Address.{Area, is_within}

-- c is one of the set and of the rectangle, at a cell or after it
abbrev pub IsAhead : BTreeSet ℕ → Area → ℕ → ℕ → Type 0
IsAhead cells r from c = (from ≤ c) × (is_within r c ≡ true) × (contains nat_cmp cells c ≡ true)

-- c is one of the set, from one cell to another
abbrev pub IsBetween : BTreeSet ℕ → ℕ → ℕ → ℕ → Type 0
IsBetween cells from to c = (from ≤ c) × (c ≤ to) × (contains nat_cmp cells c ≡ true)
