-- Rows and columns of a rectangle.
use Rattle.std.specs.Prelude.{ℕ, ◌+◌, ◌-◌, ◌==◌, ◌||◌, Bool}
use Rattle.wi_values.specs.Address.{Area, place, row_of, column_of, rect_of, height, width}

-- one row or one column
abbrev pub is_line : Area → Bool
is_line r = (height r == 1) || (width r == 1)

-- how many steps a cell is after the first of a row or a column
abbrev pub steps : Area → ℕ → ℕ
steps r c = (row_of c - row_of r.first) + (column_of c - column_of r.first)

-- its first column, and its first row
abbrev pub first_column : Area → Area
first_column r = rect_of r.first (place (row_of r.last) (column_of r.first))

abbrev pub first_row : Area → Area
first_row r = rect_of r.first (place (row_of r.first) (column_of r.last))
