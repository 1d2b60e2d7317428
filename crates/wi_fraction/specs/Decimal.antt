-- The exact decimal of a number, of any number of places.
use Rattle.std.specs.Prelude.{◌≡◌, ℕ, ◌%◌, ◌^◌, pos, int_lt, false}
use Rattle.wi_fraction.specs.Number.{Number}
use Rattle.wi_fraction.specs.Text.{Bytes, text_within}

-- the denominator divides a power of ten
abbrev pub IsDecimal : Number → Type 0
IsDecimal x = (k : ℕ) × (10 ^ k % x.den ≡ 0)

-- The number can be written as a decimal without a sign.
pub record IsUnsignedDecimal (x : Number) : Type 0 where
  pub decimal : IsDecimal x
  pub unsigned : int_lt x.num (pos 0) ≡ false

-- 126 places are enough where any are
unfoldable pub decimal_text : Number → Bytes
decimal_text x = text_within 126 x
