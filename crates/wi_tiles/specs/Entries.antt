-- What a map by cell address is seen as. Its words are those of the kit's `BTreeMap`.
use Rattle.std.specs.Prelude.{ℕ, List, Option}
use Rattle.std.specs.declared.cmp.Ordering.{Ordering}
use Rattle.std.specs.BTreeMap.{is_at}
use Rattle.std.specs.List.Sorted.{IsStrictlySortedBy}
use Rattle.std.specs.Map.{keys_of, lookup}

-- the cells that have something, each with what it has, in row-major order
pub record CellEntries (V : Type 0) : Type 0 where
  pub entries : List (ℕ × V)

-- what a cell has
abbrev pub get : {V : Type 0} → (ℕ → ℕ → Ordering) → CellEntries V → ℕ → Option V
get cmp m c = lookup (is_at (cmp c)) m.entries

-- the cells ascend
abbrev pub IsOrdered : {V : Type 0} → (ℕ → ℕ → Ordering) → CellEntries V → Type 0
IsOrdered cmp m = IsStrictlySortedBy cmp (keys_of m.entries)
