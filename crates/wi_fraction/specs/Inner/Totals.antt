-- A sum over a denominator that needn't be the least.
use Rattle.std.specs.Prelude.{◌≡◌, ℕ, ◌<◌, ◌≤◌, ℤ, pos, unsigned_abs, Some, unwrap_or}
use Rattle.std.proofs.Common.{lit<, lit≤}
use Rattle.wi_fraction.specs.Arithmetic.{sum_of}
use Rattle.wi_fraction.specs.Gcd.Laws.{gcd-one}
use Rattle.wi_fraction.specs.Number.{Number, IsNumber, number_of, max_size}

-- neither part is too large
pub record AreParts (n : ℤ) (d : ℕ) : Type 0 where
  pub above_zero : 0 < d
  pub num_fits : unsigned_abs n ≤ max_size
  pub den_fits : d ≤ max_size

pub zero_is : IsNumber (pos 0) 1
zero_is = record { above_zero = lit< tt; lowest = gcd-one 0; num_fits = lit≤ tt; den_fits = lit≤ tt }

-- n/d, where it is a number
unfoldable pub number_over : ℤ → ℕ → Number
number_over n d = unwrap_or (number_of n d) (record { num = pos 0; den = 1; is_number = zero_is })

-- m/d is the sum of n/d and a number
pub record IsSumOver (n : ℤ) (d : ℕ) (x : Number) (m : ℤ) : Type 0 where
  pub parts : AreParts m d
  pub sum : sum_of (number_over n d) x ≡ Some (number_over m d)
