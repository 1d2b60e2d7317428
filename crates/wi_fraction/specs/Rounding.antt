-- The floor of a number, and rounding at decimal places.
use Rattle.std.specs.Prelude.{ℕ, ◌+◌, ◌-◌, ◌*◌, ◌/◌, ℤ, pos, neg_ℤ, unsigned_abs, int_lt, nat_le, if◌then◌else◌, Option, None, unwrap_or}
use Rattle.std.specs.Int.{int_div_euclid}
use Rattle.wi_fraction.specs.declared.rounding.Mode.{Mode}
use Rattle.wi_fraction.specs.Number.{Number, number_of, with_minus}
use Rattle.wi_fraction.specs.Arithmetic.{◌>>=◌, times_ten_to}
use Rattle.wi_fraction.specs.declared.rounding.Mode.TheVariants.{HalfAway, Away, Toward}

-- ---- whole numbers

-- for the size n/d: the nearest, the higher of two as near; the least not below; the greatest not above
abbrev pub rounded_size : Mode → ℕ → ℕ → ℕ
rounded_size HalfAway n d = (2 * n + d) / (2 * d)
rounded_size Away n d = (n + (d - 1)) / d
rounded_size Toward n d = n / d

-- the greatest whole number not above x, which fits, as x does
unfoldable pub floored : Number → Number
floored x = unwrap_or (number_of (int_div_euclid x.num (pos x.den)) 1) x

-- it fits, as x does
unfoldable pub rounded : Mode → Number → Number
rounded m x = unwrap_or (number_of (with_minus (int_lt x.num (pos 0)) (rounded_size m (unsigned_abs x.num) x.den)) 1) x

-- ---- places

-- at k places after the point, or -k before it, at most 38
unfoldable pub round_to : Number → ℤ → Mode → Option Number
round_to x k m =
    if nat_le (unsigned_abs k) 38
    then times_ten_to k x.num x.den >>= (λ y. times_ten_to (neg_ℤ k) (rounded m y).num (rounded m y).den) else None
