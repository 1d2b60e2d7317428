-- Cells in row-major order in a list, and others beside it.
use Rattle.std.specs.Prelude.{◌≡◌, ℕ, nat_lt, Bool, true, false, List, [], ◌∷◌}
use Rattle.std.specs.Ordering.{nat_cmp}
use Rattle.std.specs.List.Sorted.{IsStrictlyIncreasing}
use Rattle.std.specs.BTreeSet.{BTreeSet, contains}

-- whether the cell comes after the last of these, if there is one
abbrev pub ends_before : List ℕ → ℕ → Bool
ends_before [] c = true
ends_before (x ∷ []) c = nat_lt x c
ends_before (x ∷ y ∷ ys) c = ends_before (y ∷ ys) c

-- the cells of the list ascend, and none of the others comes after the last of them
abbrev pub StandApart : List ℕ → BTreeSet ℕ → Type 0
StandApart cells others = IsStrictlyIncreasing cells × ((c : ℕ) → contains nat_cmp others c ≡ true → ends_before cells c ≡ false)

-- the cells of a list as a set
abbrev pub as_set : List ℕ → BTreeSet ℕ
as_set cells = record { keys = cells }
