-- What a number token writes (OpenFormula, "Constant Numbers"), as facts about its bytes: digits before a
-- point, digits after it, and an exponent.
use Rattle.std.specs.Prelude.{◌≡◌, ℕ, ◌^◌, ℤ, pos, Bool, [], ◌∷◌, ◌++◌, length, Option}
use Rattle.std.specs.Char.{to_ascii_uppercase}
use Rattle.std.specs.Str.{byte}
use Rattle.std.specs.Str.Parse.{IsNumeral, digits_value}
use Rattle.wi_fraction.specs.Arithmetic.{times_ten_to}
use Rattle.wi_fraction.specs.Number.{Number, with_minus}
use Rattle.wi_fraction.specs.Spelled.{IsSign, WritesDigits}
use Rattle.wi_fraction.specs.Text.{Bytes}

-- nothing; or `e` or `E`, a sign or none, and digits
pub data WritesExponent : Bytes → ℤ → Type 0 where
  none : WritesExponent [] (pos 0)
  power : (letter : ℕ) (sign ds : Bytes) (s : Bool) → to_ascii_uppercase letter ≡ byte "E" → IsSign sign s → IsNumeral 10 ds
      → WritesExponent (letter ∷ sign ++ ds) (with_minus s (digits_value 10 ds))

-- the token writes this number, or none where its value doesn't fit
pub data WritesNumber : Bytes → Option Number → Type 0 where
  writes : (text exponent whole parts : Bytes) (k : ℤ) → WritesDigits text whole parts → WritesExponent exponent k
      → WritesNumber (text ++ exponent) (times_ten_to k (pos (digits_value 10 (whole ++ parts))) (10 ^ length parts))

abbrev pub IsDecimalText : Bytes → Type 0
IsDecimalText text = (o : Option Number) × WritesNumber text o
