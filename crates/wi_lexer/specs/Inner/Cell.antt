-- Where a cell is found, as a reader goes.
use Rattle.std.specs.Prelude.{ℕ, ◌+◌, Bool, ◌&&◌, ◌==◌, nat_lt, if◌then◌else◌, List, length, take, drop, slice_index, Option, Some, None}
use Rattle.std.specs.List.{list_all}
use Rattle.std.specs.Char.{is_ascii_digit}
use Rattle.std.specs.Str.{byte}
use Rattle.wi_lexer.specs.Inner.Runs.{letters_len, digits_len}
use Rattle.wi_lexer.specs.declared.cell.CellText.{CellText}
use Rattle.wi_lexer.specs.Cell.{WrittenCell}

-- whether a `$` stands first
abbrev pub begins_with_dollar : List ℕ → Bool
begins_with_dollar bs = slice_index bs 0 == byte "$"

-- what follows it
abbrev pub after_dollar : List ℕ → List ℕ
after_dollar bs = if begins_with_dollar bs then drop 1 bs else bs

-- the cell with this column, whose row is these bytes
abbrev pub cut_row : Bool → List ℕ → List ℕ → WrittenCell
cut_row absolute letters row = record { column_is_absolute = absolute; letters = letters; row_is_absolute = begins_with_dollar row; digits = after_dollar row }

-- the cell whose column is the letters at the front, and whose row is what follows them
abbrev pub cut_column : Bool → List ℕ → WrittenCell
cut_column absolute bs = cut_row absolute (take (letters_len bs) bs) (drop (letters_len bs) bs)

-- whether these are digits of which the first isn't 0
abbrev pub is_row : List ℕ → Bool
is_row digits = nat_lt (byte "0") (slice_index digits 0) && list_all is_ascii_digit digits

-- whether a column and a row are there
abbrev pub is_cell : WrittenCell → Bool
is_cell c = nat_lt 0 (length c.letters) && is_row c.digits

-- the parts, if they are a cell's
abbrev pub if_cell : WrittenCell → Option WrittenCell
if_cell c = if is_cell c then Some c else None

-- the bytes cut into the parts of a cell
abbrev pub cut : List ℕ → WrittenCell
cut bs = cut_column (begins_with_dollar bs) (after_dollar bs)

-- the cell that the bytes are the text of
unfoldable pub cell_of : List ℕ → Option WrittenCell
cell_of bs = if_cell (cut bs)

-- the length of a `$` that may stand first
abbrev pub dollar_len : List ℕ → ℕ
dollar_len bs = if begins_with_dollar bs then 1 else 0

-- what follows it
abbrev pub past_dollar : List ℕ → List ℕ
past_dollar bs = drop (dollar_len bs) bs

-- the length of the column at the front, or 0 where none stands there
unfoldable pub column_len : List ℕ → ℕ
column_len bs = if nat_lt 0 (letters_len (past_dollar bs)) then dollar_len bs + letters_len (past_dollar bs) else 0

-- the length of the longest row at the front, or 0 where none stands there
unfoldable pub row_len : List ℕ → ℕ
row_len bs = if (nat_lt (byte "0") (slice_index (past_dollar bs) 0) && nat_lt 0 (digits_len (past_dollar bs))) then dollar_len bs + digits_len (past_dollar bs) else 0

-- the length of the longest cell at the front, or 0 where none stands there
unfoldable pub cell_len : List ℕ → ℕ
cell_len bs = if (nat_lt 0 (column_len bs) && nat_lt 0 (row_len (drop (column_len bs) bs))) then column_len bs + row_len (drop (column_len bs) bs) else 0

-- the parts that a `CellText` lends
abbrev pub parts : CellText → WrittenCell
parts c = record { column_is_absolute = c.column_is_absolute; letters = c.letters.now; row_is_absolute = c.row_is_absolute; digits = c.digits.now }
