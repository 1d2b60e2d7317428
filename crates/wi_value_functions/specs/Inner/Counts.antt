-- A count goes no higher than it fits: no number is so great.
use Rattle.std.specs.Prelude.{◌≡◌, ℕ, ◌+◌, ◌-◌, ◌^◌, Bool, min, if◌then◌else◌}

-- a count with one more, or none
abbrev pub counted : Bool → ℕ → ℕ
counted counts n = if counts then min (n + 1) (2 ^ 128 - 1) else n

-- the count, as far as it fits
abbrev pub IsCut : ℕ → ℕ → Type 0
IsCut c n = c ≡ min n (2 ^ 128 - 1)
