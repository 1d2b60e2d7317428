-- Where a number ends, as a reader goes.
use Rattle.std.specs.Prelude.{ℕ, ◌+◌, Bool, ◌&&◌, ◌||◌, ◌==◌, nat_lt, if◌then◌else◌, List, drop, slice_index}
use Rattle.std.specs.Str.{byte}
use Rattle.wi_fraction.specs.Inner.Signs.{is_exponent_letter}
use Rattle.wi_lexer.specs.Inner.Runs.{digits_len, one_longer}

-- the length of a point and the digits after it, or 0 where they don't stand at the front
unfoldable pub decimals_len : List ℕ → ℕ
decimals_len bs = if (slice_index bs 0 == byte "." && nat_lt 0 (digits_len (drop 1 bs))) then 1 + digits_len (drop 1 bs) else 0

-- the length of the longest decimal at the front, or 0 where none stands there
unfoldable pub decimal_len : List ℕ → ℕ
decimal_len bs = digits_len bs + decimals_len (drop (digits_len bs) bs)

abbrev pub is_sign_byte : ℕ → Bool
is_sign_byte b = b == byte "+" || b == byte "-"

-- the length of digits at the front, with a sign before them or without, or 0 where none stand there
unfoldable pub signed_len : List ℕ → ℕ
signed_len bs = if is_sign_byte (slice_index bs 0) then one_longer (digits_len (drop 1 bs)) else digits_len bs

-- the length of the longest exponent at the front, or 0 where none stands there
unfoldable pub exponent_len : List ℕ → ℕ
exponent_len bs = if is_exponent_letter (slice_index bs 0) then one_longer (signed_len (drop 1 bs)) else 0

-- the length of the longest number at the front, or 0 where none stands there
unfoldable pub number_len : List ℕ → ℕ
number_len bs = if nat_lt 0 (decimal_len bs) then decimal_len bs + exponent_len (drop (decimal_len bs) bs) else 0
