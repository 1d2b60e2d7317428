-- What a text reads as, from the left. Laws tie it to what texts spell and write.
use Rattle.std.specs.Prelude.{ℕ, ◌+◌, ◌*◌, ◌^◌, pos, Bool, true, false, not, ◌&&◌, ◌||◌, nat_lt, nat_le, List, [], ◌∷◌, ◌++◌, length, take, drop, slice_index, ◌==◌, if◌then◌else◌, Option, None}
use Rattle.std.specs.Char.{is_ascii_digit}
use Rattle.std.specs.Str.{byte, all_ascii_digits}
use Rattle.std.specs.Str.Parse.{digits_value, without_leading_plus}
use Rattle.std.specs.List.{prefix_len}
use Rattle.wi_fraction.specs.Number.{Number, number_of, with_minus, max_size}

-- one digit or more, and nothing else
abbrev pub is_numeral : List ℕ → Bool
is_numeral bs = nat_lt 0 (length bs) && all_ascii_digits bs

-- the decimal with those digits before and after the point, of which there may be none after it
abbrev pub decimal_value : Bool → List ℕ → List ℕ → Option Number
decimal_value s whole parts = number_of (with_minus s (digits_value 10 (whole ++ parts))) (10 ^ length parts)

-- n/d with that sign, where d is not zero and neither is too large
abbrev pub read_quotient : Bool → ℕ → ℕ → Option Number
read_quotient s n d = if nat_lt 0 d && nat_le n max_size && nat_le d max_size then number_of (with_minus s n) d else None

-- what the digits and the rest of the text read as
unfoldable pub read_after : Bool → List ℕ → List ℕ → Option Number
read_after s whole [] = decimal_value s whole []
read_after s whole (c ∷ more) =
    if not (is_numeral more) then None else
    if c == byte "." then decimal_value s whole more else
    if c == byte "/" then read_quotient s (digits_value 10 whole) (digits_value 10 more) else
    None

-- digits, then nothing, or a point and digits, or a slash and digits
unfoldable pub read_size : Bool → List ℕ → Option Number
read_size s bs = let k = prefix_len is_ascii_digit bs in if k == 0 then None else read_after s (take k bs) (drop k bs)

-- the number that a text spells: an optional sign, then digits, a decimal or a quotient
unfoldable pub read : List ℕ → Option Number
read bs = if slice_index bs 0 == byte "-" then read_size true (drop 1 bs) else read_size false (without_leading_plus bs)

-- the decimal with those digits before and after the point, times ten to the power k
abbrev pub raised : List ℕ → List ℕ → ℕ → Option Number
raised whole parts k = number_of (pos (digits_value 10 (whole ++ parts) * 10 ^ k)) (10 ^ length parts)

-- that decimal divided by ten to the power k
abbrev pub lowered : List ℕ → List ℕ → ℕ → Option Number
lowered whole parts k = number_of (pos (digits_value 10 (whole ++ parts))) (10 ^ (length parts + k))

-- that decimal with the exponent that the digits write, which is below zero where the test says so
unfoldable pub with_exponent : Bool → List ℕ → List ℕ → List ℕ → Option Number
with_exponent s whole parts digits =
    if not (is_numeral digits) then None else
    if s then lowered whole parts (digits_value 10 digits) else
    raised whole parts (digits_value 10 digits)

-- that decimal with the exponent that the text spells: digits, before which a sign may stand
unfoldable pub exponent_after : List ℕ → List ℕ → List ℕ → Option Number
exponent_after whole parts bs =
    if slice_index bs 0 == byte "-" then with_exponent true whole parts (drop 1 bs) else
    with_exponent false whole parts (without_leading_plus bs)

-- what the digits and the rest of a number token read as: nothing, or an exponent
unfoldable pub scaled_after : List ℕ → List ℕ → List ℕ → Option Number
scaled_after whole parts [] = decimal_value false whole parts
scaled_after whole parts (c ∷ more) = if c == byte "e" || c == byte "E" then exponent_after whole parts more else None

-- what the digits before a point and the rest of a number token after it read as
unfoldable pub point_after : List ℕ → List ℕ → Option Number
point_after whole bs = let k = prefix_len is_ascii_digit bs in if k == 0 then None else scaled_after whole (take k bs) (drop k bs)

-- what the digits and the rest of a number token read as
unfoldable pub decimal_after : List ℕ → List ℕ → Option Number
decimal_after whole [] = if length whole == 0 then None else decimal_value false whole []
decimal_after whole (c ∷ more) =
    if c == byte "." then point_after whole more else
    if length whole == 0 then None else
    scaled_after whole [] (c ∷ more)

-- the number that a number token spells: digits, or a decimal, before whose point no digit need stand; then an exponent
-- or none
unfoldable pub read_decimal : List ℕ → Option Number
read_decimal bs = let k = prefix_len is_ascii_digit bs in decimal_after (take k bs) (drop k bs)
