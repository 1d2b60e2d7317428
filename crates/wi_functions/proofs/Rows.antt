-- A sum above the greatest number.
use Rattle.wi_functions.proofs.Words.{◌≡◌, ℕ, ◌≤◌, refl, lit<, lit≤, pos, ◌^◌, ◌-◌, max_size, gcd, sum_of, gcd-one, BadNumber, Empty, Fault, Add, number, binary, meaning}
use Rattle.wi_fraction.specs.Number as numbers

abbrev whole : (n : ℕ) → n ≤ max_size → numbers.Number
whole n h = record { num = pos n; den = 1; is_number = record { above_zero = lit< tt; lowest = gcd-one n; num_fits = h; den_fits = lit≤ tt } }

abbrev one : numbers.Number
one = whole 1 (lit≤ tt)

-- the greatest number
abbrev greatest : numbers.Number
greatest = whole (2 ^ 127 - 1) (lit≤ tt)

above_greatest : meaning (binary Add (number greatest) (number one)) (λ _. Empty) (λ _ _. Empty) ≡ Fault BadNumber
unfolding sum_of gcd
above_greatest = refl
