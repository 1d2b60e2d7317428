-- The cell of a reference in the sheet is written with its column and row, which stand for its address.
use Rattle.wi_parser.proofs.Words.{◌≡◌, ℕ, ◌+◌, ◌*◌, ◌<◌, ◌^◌, Bool, true, false, ◌&&◌, nat_lt, List, [], ◌∷◌, ◌++◌, length, Option, Some, None, Ok, Err, ok_or, option_map, if◌then◌else◌, refl, ap, arith, nat_tests, decimal_is_IsNumeral, first_decimal, take-append_seam, drop-append_seam, is_ascii_alphabetic, is_ascii_digit, decimal, list_all, prefix_len, and_parts, columns, rows, row_of, column_of, column_letters, address_text, is_row_number, address_at, read_address, Shape, Outside, addresses_read_back, column_are_letters, column_some, IsRunOf, IsCell, run_stops, run_more, cell_from_runs, digits_run, Reference, written_cell, in_sheet, reference_to}

-- ---- the column, and the row

column_is : (column : ℕ) → IsRunOf is_ascii_alphabetic (column_letters column)
column_is column = record { some = column_some column; all = column_are_letters column }

short : (row : ℕ) → row < rows → row + 1 < 2 ^ 64
short row h = omega arith

row_is : (row : ℕ) → row < rows → IsRunOf is_ascii_digit (decimal (row + 1))
row_is row h = digits_run (decimal (row + 1)) (decimal_is_IsNumeral (row + 1) (short row h)).0

-- ---- the cell

inside : (r : Reference) → in_sheet r ≡ true → r.at < rows * columns
inside r e = grind (arith, nat_tests)

row_inside : (a : ℕ) → a < rows * columns → row_of a < rows
row_inside a h = omega arith

pub cell_is : (r : Reference) → in_sheet r ≡ true → IsCell (written_cell r)
cell_is r e =
    let row = row_inside r.at (inside r e) in
    cell_from_runs (written_cell r) (column_is (column_of r.at)) (row_is (row_of r.at) row) (first_decimal (row_of r.at + 1) (omega arith) (short (row_of r.at) row))

no_letters : (ds : List ℕ) → IsRunOf is_ascii_digit ds → prefix_len is_ascii_alphabetic ds ≡ 0
no_letters [] run = refl
no_letters (d ∷ ds) run =
    let first = (and_parts (is_ascii_digit d) (list_all is_ascii_digit ds) run.all).0 in
    let other : is_ascii_alphabetic d ≡ false = grind (arith, nat_tests, first) in
    run_stops is_ascii_alphabetic d ds other

-- an address that was read was there
was_there : (b : Bool) (o : Option ℕ) (a : ℕ) → (if b then ok_or o Outside else Err Shape) ≡ Ok a → o ≡ Some a
was_there true None a h = cc
was_there true (Some b) a h = cc
was_there false o a h = cc

-- an address that is read from letters and digits is the one of that column and row
read_parts : (ls ds : List ℕ) (a : ℕ) → IsRunOf is_ascii_alphabetic ls → IsRunOf is_ascii_digit ds → read_address (ls ++ ds) ≡ Ok a → address_at ls ds ≡ Some a
unfolding read_address
read_parts ls ds a h i e =
    let len : prefix_len is_ascii_alphabetic (ls ++ ds) ≡ length ls = omega (arith, run_more is_ascii_alphabetic ls ds h.all, no_letters ds i) in
    was_there (nat_lt 0 (length ls) && is_row_number ds) (address_at ls ds) a (rw (len, take-append_seam ls ds, drop-append_seam ls ds) at e)

address_there : (a : ℕ) → a < rows * columns → address_at (column_letters (column_of a)) (decimal (row_of a + 1)) ≡ Some a
unfolding address_text
address_there a h = read_parts (column_letters (column_of a)) (decimal (row_of a + 1)) a (column_is (column_of a)) (row_is (row_of a) (row_inside a h)) (addresses_read_back a h)

-- the cell as it is written means the reference
pub cell_means : (r : Reference) → in_sheet r ≡ true → reference_to (written_cell r) ≡ Some r
cell_means r e =
    ap (option_map (λ a. record { at = a; column_is_absolute = r.column_is_absolute; row_is_absolute = r.row_is_absolute })) (address_there r.at (inside r e))
