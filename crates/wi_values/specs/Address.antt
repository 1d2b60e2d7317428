-- Addresses and rectangles. A cell's address is its place in row-major order: row after row, in each from the left.
use Rattle.std.specs.Prelude.{ℕ, zero, suc, ◌+◌, ◌-◌, ◌*◌, ◌/◌, ◌%◌, ◌^◌, ◌≤◌, min, max, List, [], ◌∷◌, ◌++◌, Bool, ◌&&◌, not, ◌==◌, nat_lt, nat_le, length, slice_index, if◌then◌else◌, map, decimal}
use Rattle.std.specs.List.{range_with_len, flat_map, list_any}
use Rattle.std.specs.Char.{to_ascii_uppercase}
use Rattle.std.specs.Str.{byte, all_ascii_digits}
use Rattle.wi_fraction.specs.Text.{Bytes}

abbrev pub columns : ℕ
columns = 16384

abbrev pub rows : ℕ
rows = 1048576

-- row and column count from 0
abbrev pub place : ℕ → ℕ → ℕ
place row column = row * columns + column

abbrev pub row_of : ℕ → ℕ
row_of a = a / columns

abbrev pub column_of : ℕ → ℕ
column_of a = a % columns

-- the cell is one of these
abbrev pub is_one_of : List ℕ → ℕ → Bool
is_one_of cells c = list_any (λ x. x == c) cells

-- ---- rectangles

-- a rectangle, by its upper left and its lower right
pub record Area : Type 0 where
  pub first : ℕ
  pub last : ℕ

abbrev pub HasCornersInOrder : Area → Type 0
HasCornersInOrder r = (row_of r.first ≤ row_of r.last) × (column_of r.first ≤ column_of r.last)

-- the rectangle with these corners, in any order
abbrev pub rect_of : ℕ → ℕ → Area
rect_of a b = record {
  first = place (min (row_of a) (row_of b)) (min (column_of a) (column_of b));
  last = place (max (row_of a) (row_of b)) (max (column_of a) (column_of b));
}

abbrev pub is_within : Area → ℕ → Bool
is_within r a =
    (nat_le (row_of r.first) (row_of a) && nat_le (row_of a) (row_of r.last))
    && (nat_le (column_of r.first) (column_of a) && nat_le (column_of a) (column_of r.last))

abbrev pub is_within_one : List Area → ℕ → Bool
is_within_one areas a = list_any (λ r. is_within r a) areas

abbrev pub height : Area → ℕ
height r = (row_of r.last + 1) - row_of r.first

abbrev pub width : Area → ℕ
width r = (column_of r.last + 1) - column_of r.first

-- its cells in one row, from the left
abbrev pub cells_of_row : ℕ → Area → List ℕ
cells_of_row row r = map (place row) (range_with_len (column_of r.first) (width r))

-- the numbers of its rows, from above
abbrev pub rows_in : Area → List ℕ
rows_in r = range_with_len (row_of r.first) (height r)

-- all its cells, in row-major order
abbrev pub cells_of : Area → List ℕ
cells_of r = flat_map (λ row. cells_of_row row r) (rows_in r)

abbrev pub size_of : Area → ℕ
size_of r = height r * width r

-- whether all its cells stand in one column
abbrev pub is_column : Area → Bool
is_column r = column_of r.first == column_of r.last

-- whether all its cells stand in one row
abbrev pub is_row : Area → Bool
is_row r = row_of r.first == row_of r.last

-- ---- texts of addresses

-- A is 1, Z 26, AA 27 and so on
abbrev pub letters_value : Bytes → ℕ
letters_value [] = 0
letters_value (c ∷ cs) = (to_ascii_uppercase c - (byte "A" - 1)) * 26 ^ length cs + letters_value cs

-- the letters of a column, counted from 1, at most so many; `letters_value` reads them back
unfoldable pub letters_within : ℕ → ℕ → Bytes
letters_within zero n = []
letters_within (suc k) n = if n == 0 then [] else letters_within k ((n - 1) / 26) ++ (byte "A" + (n - 1) % 26) ∷ []

-- of a column, counted from 0; three are enough
unfoldable pub column_letters : ℕ → Bytes
column_letters n = letters_within 3 (n + 1)

unfoldable pub address_text : ℕ → Bytes
address_text a = column_letters (column_of a) ++ decimal (row_of a + 1)

-- digits, the first not 0
abbrev pub is_row_number : Bytes → Bool
is_row_number ds = (nat_lt 0 (length ds) && all_ascii_digits ds) && not (slice_index ds 0 == byte "0")
