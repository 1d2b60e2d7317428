-- Cells in row-major order.
use Rattle.std.specs.Prelude.{ℕ, ◌≤◌, min, Option, Some, None}

-- the sooner of two cells that may be there
abbrev pub sooner : Option ℕ → Option ℕ → Option ℕ
sooner None b = b
sooner (Some a) None = Some a
sooner (Some a) (Some b) = Some (min a b)

-- there is a cell, and it stands at a or before
abbrev pub IsAtOrBefore : Option ℕ → ℕ → Type 0
IsAtOrBefore None a = ⊥
IsAtOrBefore (Some b) a = b ≤ a
