-- The fields of a CSV text, each with the cell for which it is, and the rectangles that they fill.
use Rattle.std.specs.Prelude.{ℕ, ◌+◌, ◌-◌, ◌<◌, nat_lt, List, length, map, filter, flat_map}
use Rattle.std.specs.List.{enumerate_from}
use Rattle.wi_values.specs.Address.{Area, rows, columns, place, row_of, column_of}
use Rattle.wi_csv.specs.Records.{recs}
use Rattle.wi_fraction.specs.Text.{Bytes}

-- row and column count from 0
pub record Field : Type 0 where
  pub row : ℕ
  pub column : ℕ
  pub bytes : Bytes

abbrev pub IsInside : Field → Type 0
IsInside f = (f.row < rows) × (f.column < columns)

-- the fields of a record, from a column on
abbrev pub fields_of : ℕ → ℕ → List Bytes → List Field
fields_of row column fields = map (λ f. record { row = row; column = f.0; bytes = f.1 }) (enumerate_from column fields)

-- the fields of records, the first in this row, each in the next, all from a column on
abbrev pub fields_from : ℕ → ℕ → List (List Bytes) → List Field
fields_from row column records = flat_map (λ r. fields_of r.0 column r.1) (enumerate_from row records)

-- the fields of a text, the first for the cell `at`
abbrev pub fields_at : ℕ → Bytes → List Field
fields_at at text = fields_from (row_of at) (column_of at) (recs text)

-- the cells of each record that has fields, in the same places
abbrev pub areas_from : ℕ → ℕ → List (List Bytes) → List Area
areas_from row column records =
    map (λ r. record { first = place r.0 column; last = place r.0 (column + length r.1 - 1) })
    (filter (λ r. nat_lt 0 (length r.1)) (enumerate_from row records))

-- the rectangles of a text's records, the first from the cell `at` on
abbrev pub record_areas_at : ℕ → Bytes → List Area
record_areas_at at text = areas_from (row_of at) (column_of at) (recs text)
