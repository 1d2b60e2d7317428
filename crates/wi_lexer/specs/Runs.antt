-- White space.
use Rattle.std.specs.Prelude.{ℕ, Bool, ◌||◌, ◌==◌}
use Rattle.std.specs.List.{prefix_len}
use Rattle.std.specs.Str.{byte}
use Rattle.wi_fraction.specs.Text.{Bytes}

-- white space
abbrev pub is_blank : ℕ → Bool
is_blank b = b == byte " " || b == byte "\t" || b == byte "\r" || b == byte "\n"

-- how many bytes of the class stand at the front
abbrev pub blanks_len : Bytes → ℕ
blanks_len bs = prefix_len is_blank bs
