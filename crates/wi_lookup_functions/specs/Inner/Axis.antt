-- The lines of a rectangle, which are its rows or its columns.
use Rattle.std.specs.Prelude.{ℕ, ◌+◌, List}
use Rattle.wi_values.specs.Address.{Area, place, row_of, column_of, height, width}
use Rattle.wi_values.specs.declared.value.Value.{Value}
use Rattle.wi_standard_functions.specs.Arguments.{Argument, Region}
use Rattle.wi_standard_functions.specs.Lookup.{cell_in, look_up_value}
use Rattle.wi_lookup_functions.specs.declared.axis.Axis.{Axis}
use Rattle.wi_lookup_functions.specs.declared.axis.Axis.TheVariants.{Rows, Columns}
use Rattle.wi_lookup_functions.specs.Inner.Lines.{first_column, first_row}

abbrev pub line_count : Axis → Area → ℕ
line_count Rows = height
line_count Columns = width

abbrev pub line_width : Axis → Area → ℕ
line_width Rows = width
line_width Columns = height

abbrev pub first_cells : Axis → Area → Area
first_cells Rows = first_column
first_cells Columns = first_row

abbrev pub cell_along : Axis → Area → ℕ → ℕ → ℕ
cell_along Rows r line i = place (row_of r.first + line) (column_of r.first + i)
cell_along Columns r line i = place (row_of r.first + i) (column_of r.first + line)

-- ---- the lines of a region, which is what stands in a rectangle

abbrev pub lines_in : Axis → Region → ℕ
lines_in Rows = λ r. r.height
lines_in Columns = λ r. r.width

abbrev pub width_in : Axis → Region → ℕ
width_in Rows = λ r. r.width
width_in Columns = λ r. r.height

abbrev pub cell_in_line : Axis → Region → ℕ → ℕ → Value
cell_in_line Rows = cell_in
cell_in_line Columns = λ r column row. cell_in r row column

-- VLOOKUP where the lines are rows, HLOOKUP where they are columns
abbrev pub look_up_by : Axis → List Argument → Value
look_up_by axis = look_up_value (lines_in axis) (width_in axis) (cell_in_line axis)
