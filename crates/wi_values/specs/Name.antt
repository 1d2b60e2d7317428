-- Names of scenarios and sessions.
use Rattle.std.specs.Prelude.{Bool, ◌||◌, ◌&&◌, ◌==◌, nat_lt, nat_le, if◌then◌else◌, length, Option, Some, None}
use Rattle.std.specs.List.{list_all}
use Rattle.std.specs.Char.{is_ascii_digit, is_ascii_alphabetic}
use Rattle.std.specs.Str.{byte}
use Rattle.wi_values.specs.declared.name.Name.{Name}
pub use Rattle.wi_fraction.specs.Text.{Bytes}

-- 1 to 32 bytes
abbrev pub is_name : Bytes → Bool
is_name bs = (nat_lt 0 (length bs) && nat_le (length bs) 32) && list_all (λ b. is_ascii_alphabetic b || is_ascii_digit b || b == byte "_") bs

-- the name that a text spells
abbrev pub read_name : Bytes → Option Bytes
read_name bs = if is_name bs then Some bs else None

-- the bytes of a name
abbrev pub bytes_of : Name → Bytes
bytes_of n = n.text.now
