-- Where runs of bytes end, as a reader goes.
use Rattle.std.specs.Prelude.{◌≡◌, ℕ, ◌+◌, ◌<◌, Bool, true, false, ◌==◌, nat_lt, if◌then◌else◌, List, length}
use Rattle.std.specs.List.{list_all, prefix_len}
use Rattle.std.specs.Char.{is_ascii_digit, is_ascii_alphabetic}
use Rattle.std.specs.Str.{byte}

-- some bytes, each of the class
pub record IsRunOf (class : ℕ → Bool) (text : List ℕ) : Type 0 where
  pub some : 0 < length text
  pub all : list_all class text ≡ true

-- any byte but `:`
abbrev pub is_before_colon : ℕ → Bool
is_before_colon b = if b == byte ":" then false else true

abbrev pub digits_len : List ℕ → ℕ
digits_len bs = prefix_len is_ascii_digit bs

abbrev pub letters_len : List ℕ → ℕ
letters_len bs = prefix_len is_ascii_alphabetic bs

abbrev pub before_colon_len : List ℕ → ℕ
before_colon_len bs = prefix_len is_before_colon bs

-- a length and one byte before it, or 0 where the length is 0
abbrev pub one_longer : ℕ → ℕ
one_longer n = if nat_lt 0 n then 1 + n else 0
