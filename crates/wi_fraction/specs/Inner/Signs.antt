-- Bytes that the code writes and reads.
use Rattle.std.specs.Prelude.{ℕ, Bool, if◌then◌else◌, [], ◌==◌, ◌||◌, codes}
use Rattle.std.specs.Str.{byte}
use Rattle.wi_fraction.specs.Text.{Bytes}

abbrev pub sign_text : Bool → Bytes
sign_text negative = if negative then codes "-" else []

abbrev pub is_exponent_letter : ℕ → Bool
is_exponent_letter c = c == byte "e" || c == byte "E"
