-- The shape of a table: whether its second rectangle, where it has one, is a row, and how many entries it has.
use Rattle.std.specs.Prelude.{ℕ, ◌*◌, Bool, true, Option, Some, None}
use Rattle.wi_values.specs.Address.{Area, size_of, is_row}

abbrev pub has_row : Option (ℕ × Area) → Bool
has_row None = true
has_row (Some second) = is_row second.1

-- how many entries stand beside a cell of the column
abbrev pub width : Option (ℕ × Area) → ℕ
width None = 1
width (Some second) = size_of second.1

-- how many entries the table has
abbrev pub entries : Area → Option (ℕ × Area) → ℕ
entries xs second = size_of xs * width second
