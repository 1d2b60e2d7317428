-- How long a formula may be.
use Rattle.std.specs.Prelude.{ℕ}

-- in bytes
abbrev pub max_formula : ℕ
max_formula = 4096
