-- What is written for one row, one cell or one change, and what is counted before.
use Rattle.std.specs.Prelude.{ℕ, ◌==◌, if◌then◌else◌, List, [], ◌∷◌, map, Option}
use Rattle.std.specs.List.{count_by}
use Rattle.std.specs.Option.{option_map_or}
use Rattle.std.specs.Str.{byte}
use Rattle.wi_values.specs.Address.{Area, cells_of_row, address_text}
use Rattle.wi_values.specs.Value.{shown_text}
use Rattle.wi_values.specs.declared.value.Value.{Value}
use Rattle.wi_values.specs.declared.replacement.Replacement.{Replacement}
use Rattle.wi_parser.specs.Sheet.{Sheet}
use Rattle.wi_sheet.specs.Shown.{shown}
use Rattle.wi_csv.specs.Row.{row}
use Rattle.wi_fraction.specs.Number.{Number}
use Rattle.wi_fraction.specs.Text.{text_of}
use Rattle.wi_values.specs.Value.{error_name}
use Rattle.wi_values.specs.declared.value.ErrorKind.TheVariants.{BadNumber}
use Rattle.wi_sessions.specs.Pictures.{same_value}
use Rattle.wi_reports.specs.Rows.{text_under}
use Rattle.wi_reports.specs.Changes.{kind_text}
use Rattle.wi_reports.specs.Compare.{difference_text}
use Rattle.wi_reports.specs.Table.{entries_beside}

-- the text of a number, or `#NUM!` where there is none, as it doesn't fit
abbrev pub number_text : Option Number → List ℕ
number_text o = option_map_or text_of o (error_name BadNumber)

-- the record of a cell with two values, which is nothing where they are one
abbrev pub difference_record : ℕ → Value → Value → List ℕ
difference_record a v w =
    if same_value v w then [] else row (address_text a ∷ shown_text v ∷ shown_text w ∷ difference_text v w ∷ [])

-- the record of one row of a rectangle
abbrev pub row_shown : Sheet → List Replacement → Area → ℕ → List ℕ
row_shown sheet put area r = row (map (text_under sheet put) (cells_of_row r area))

-- how many lines records are
abbrev pub lines_in : List ℕ → ℕ
lines_in bytes = count_by (λ b. b == byte "\n") bytes

-- the record of a change
abbrev pub change_record : ℕ × Value → List ℕ
change_record e = row (address_text e.0 ∷ kind_text e.1 ∷ shown_text e.1 ∷ [])

-- the record of a cell, which is nothing where its values are one
abbrev pub cell_compared : Sheet → List Replacement → List Replacement → ℕ → List ℕ
cell_compared sheet p q a = difference_record a (shown sheet p a) (shown sheet q a)

-- the pairs of an entry: the first input, and a second one
abbrev pub pairs_at : ℕ → ℕ → ℕ → ℕ → List (ℕ × ℕ)
pairs_at r x c y = (r, x) ∷ (c, y) ∷ []

-- the record of a cell of a table's column: its text, and the entries beside it
abbrev pub table_row : Sheet → List Replacement → ℕ → ℕ → Option (ℕ × Area) → ℕ → List ℕ
table_row sheet put f r second x = row (text_under sheet put x ∷ entries_beside sheet put f r second x)
