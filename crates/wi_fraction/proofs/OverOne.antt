-- A whole number is a number, over one.
use Rattle.std.specs.Prelude.{ℕ, pos, ◌≤◌}
use Rattle.std.proofs.Common.{lit<, lit≤}
use Rattle.wi_fraction.specs.Gcd.Laws.{gcd-one}
use Rattle.wi_fraction.specs.Number.{IsNumber, max_size}

pub whole_is_number : (n : ℕ) → n ≤ max_size → IsNumber (pos n) 1
whole_is_number n fits = record { above_zero = lit< tt; lowest = gcd-one n; num_fits = fits; den_fits = lit≤ tt }
