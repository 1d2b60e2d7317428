-- Cells as a formula writes them: a column in letters, a row in digits, `$` before a part that is absolute.
use Rattle.std.specs.Prelude.{◌≡◌, ◌<◌, Bool, true, if◌then◌else◌, ◌++◌, length, slice_index, codes, []}
use Rattle.std.specs.List.{list_all}
use Rattle.std.specs.Char.{is_ascii_alphabetic}
use Rattle.std.specs.Str.{byte}
use Rattle.std.specs.Str.Parse.{IsNumeral}
use Rattle.wi_fraction.specs.Text.{Bytes}

-- a cell as written
pub record WrittenCell : Type 0 where
  pub column_is_absolute : Bool
  pub letters : Bytes
  pub row_is_absolute : Bool
  pub digits : Bytes

-- Some letters, and digits of which the first isn't 0.
pub record IsCell (c : WrittenCell) : Type 0 where
  pub some : 0 < length c.letters
  pub letters : list_all is_ascii_alphabetic c.letters ≡ true
  pub digits : IsNumeral 10 c.digits
  pub first : byte "0" < slice_index c.digits 0

abbrev pub dollar : Bool → Bytes
dollar absolute = if absolute then codes "$" else []

abbrev pub cell_text : WrittenCell → Bytes
cell_text c = dollar c.column_is_absolute ++ (c.letters ++ (dollar c.row_is_absolute ++ c.digits))
