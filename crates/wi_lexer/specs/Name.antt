-- Names of functions as a formula writes them.
use Rattle.std.specs.Prelude.{◌≡◌, ℕ, Bool, true, ◌||◌, ◌==◌, slice_index}
use Rattle.std.specs.List.{list_all}
use Rattle.std.specs.Char.{is_ascii_digit, is_ascii_alphabetic}
use Rattle.std.specs.Str.{byte}
use Rattle.wi_fraction.specs.Text.{Bytes}

abbrev pub is_name_start : ℕ → Bool
is_name_start b = is_ascii_alphabetic b || b == byte "_"

abbrev pub is_name_part : ℕ → Bool
is_name_part b = is_ascii_alphabetic b || is_ascii_digit b || b == byte "_" || b == byte "."

pub record IsName (text : Bytes) : Type 0 where
  pub start : is_name_start (slice_index text 0) ≡ true
  pub parts : list_all is_name_part text ≡ true
