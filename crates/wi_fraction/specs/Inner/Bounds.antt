-- Steps that stop at what is too large, and a sum by them.
use Rattle.std.specs.Prelude.{ℕ, ◌*◌, ◌/◌, ℤ, pos, ◌+ℤ◌, ◌*ℤ◌, unsigned_abs, nat_le, if◌then◌else◌, Option, Some, None}
use Rattle.wi_fraction.specs.Arithmetic.{◌>>=◌}
use Rattle.wi_fraction.specs.Gcd.{gcd}
use Rattle.wi_fraction.specs.Number.{Number, number_of, max_size}

-- where it is not too large
abbrev pub bounded : ℕ → Option ℕ
bounded n = if nat_le n max_size then Some n else None

-- where its size is not too large
abbrev pub int_bounded : ℤ → Option ℤ
int_bounded z = if nat_le (unsigned_abs z) max_size then Some z else None

-- the sum, step by step
unfoldable pub sum_by_steps : Number → Number → Option Number
sum_by_steps x y = do
  multiple ← bounded (x.den / gcd x.den y.den * y.den)
  first ← int_bounded (x.num *ℤ pos (multiple / x.den))
  second ← int_bounded (y.num *ℤ pos (multiple / y.den))
  total ← int_bounded (first +ℤ second)
  number_of total multiple
