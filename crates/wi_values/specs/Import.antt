-- The longest text of a value.
use Rattle.std.specs.Prelude.{ℕ}

-- in bytes
abbrev pub max_text : ℕ
max_text = 32767
