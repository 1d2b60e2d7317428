-- Parts by their index, from a first one on.
use Rattle.std.specs.Prelude.{◌≡◌, ℕ, ◌+◌, ◌-◌, ◌/◌, ◌%◌, ◌<◌, ◌≤◌, nat_lt, List, length, Option, Some, None, slice_get, if◌then◌else◌}

-- what a part has at a place, where there is such a part
abbrev pub at_part : {P V : Type 0} → (P → ℕ → Option V) → Option P → ℕ → Option V
at_part at None p = None
at_part at (Some s) p = at s p

-- how many parts there may be
abbrev pub span : ℕ
span = 256

-- parts from a first index on end within that
abbrev pub Fits : {S : Type 0} → ℕ → List S → Type 0
Fits first parts = first + length parts ≤ span

-- the part at an index, where parts stand from a first index on
abbrev pub part_from : {S : Type 0} → ℕ × List S → ℕ → Option S
part_from w i = if nat_lt i w.0 then None else slice_get w.1 (i - w.0)

-- what the parts have at a path, whose first digit is the index
abbrev pub at_window : {S V : Type 0} → (S → ℕ → Option V) → ℕ × List S → ℕ → Option V
at_window at w p = at_part at (part_from w (p % span)) (p / span)

-- there is a part, and it has something
abbrev pub HasSome : {P V : Type 0} → (P → ℕ → Option V) → Option P → Type 0
HasSome at s = ((p : ℕ) → at_part at s p ≡ None) → ⊥

-- where there are parts, the last of them has something
abbrev pub EndsFilled : {P V : Type 0} → (P → ℕ → Option V) → List P → Type 0
EndsFilled at parts = 0 < length parts → HasSome at (slice_get parts (length parts - 1))

-- where there are parts, the first of them has something, and the last has
pub record IsTrimmed {P V : Type 0} (at : P → ℕ → Option V) (parts : List P) : Type 0 where
  pub first : 0 < length parts → HasSome at (slice_get parts 0)
  pub last : EndsFilled at parts
