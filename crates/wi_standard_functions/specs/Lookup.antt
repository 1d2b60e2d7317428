-- OpenFormula, "Lookup Functions".
use Rattle.std.specs.Prelude.{ℕ, ℤ, pos, ◌+◌, ◌*◌, ◌-◌, ◌==◌, ◌||◌, true, nat_lt, int_lt, unsigned_abs, nat_le, length, List, map, slice_get, unwrap_or, Result, Ok, Err, ok_or, if◌then◌else◌}
use Rattle.std.specs.List.{range_with_len}
use Rattle.wi_fraction.specs.Number as numbers
use Rattle.wi_values.specs.declared.value.ErrorKind.{ErrorKind}
use Rattle.wi_values.specs.declared.value.ErrorKind.TheVariants.{BadValue, BadReference, NotAvailable}
use Rattle.wi_values.specs.declared.value.Value.{Value}
use Rattle.wi_values.specs.declared.value.Value.TheVariants.{Number, Logical, Fault}
use Rattle.wi_standard_functions.specs.Arguments.{Argument, Region, region_at, value_at, value_or}
use Rattle.wi_standard_functions.specs.Arithmetic.{whole_value}
use Rattle.wi_standard_functions.specs.Convert.{to_number, to_whole, to_logical, zero_number, one_number}
use Rattle.wi_standard_functions.specs.FirstError.{no_error}
use Rattle.wi_standard_functions.specs.Matching.{match_position, sought_for}
use Rattle.wi_standard_functions.specs.Steps.{◌>>=◌}
use Rattle.wi_standard_functions.specs.Text.{at_least}

-- the k-th after the first; only the error of that one counts
abbrev pub choose_value : List Argument → Value
choose_value args = do k ← to_whole (value_at args 0); i ← at_least 1 k; value_or (Fault BadValue) args i

-- ---- positions in a region

-- the position, from 0, of the k-th of n
abbrev pub position_among : ℕ → ℤ → Result ℕ ErrorKind
position_among n k =
    if int_lt k (pos 1) then Err BadValue else
    if nat_lt n (unsigned_abs k) then Err BadReference else
    Ok (unsigned_abs k - 1)

-- row and column count from 0
abbrev pub cell_in : Region → ℕ → ℕ → Value
cell_in r row column = unwrap_or (slice_get r.values (row * r.width + column)) (Fault BadReference)

-- ---- INDEX

-- one below 1 comes before one that is too large
abbrev pub nth_cell : Region → ℤ → ℤ → Value
nth_cell r j k =
    if int_lt j (pos 1) || int_lt k (pos 1) then Fault BadValue else (do
      row ← position_among r.height j
      column ← position_among r.width k
      cell_in r row column)

-- with three arguments by row and column, with two along a region that is one column or one row
abbrev pub index_value : List Argument → Value
index_value args = do
  r ← region_at args 0
  j ← to_whole (value_at args 1)
  k ← to_whole (value_or (Number one_number) args 2)
  (if nat_le 3 (length args) || r.width == 1 then nth_cell r j k else
      if r.height == 1 then nth_cell r (pos 1) j else
      Fault BadValue)

-- ---- searches

abbrev pub position_of : numbers.Number → Value → List Value → Result ℕ ErrorKind
position_of match_type v vs = ok_or (match_position match_type (sought_for v) vs) NotAvailable

-- positions count from 1
abbrev pub match_value : List Argument → Value
match_value args = do
  v ← no_error (value_at args 0)
  r ← region_at args 1
  match_type ← to_number (value_or (Number one_number) args 2)
  vs ← if (r.height == 1) || (r.width == 1) then Ok r.values else Err BadValue
  i ← position_of match_type v vs
  whole_value (i + 1)

-- the k-th cell of the line whose first cell is found; the lines are rows, or columns
abbrev pub look_up_value : (Region → ℕ) → (Region → ℕ) → (Region → ℕ → ℕ → Value) → List Argument → Value
look_up_value lines places cell args = do
  v ← no_error (value_at args 0)
  r ← region_at args 1
  k ← to_whole (value_at args 2)
  in_order ← to_logical (value_or (Logical true) args 3)
  i ← position_among (places r) k
  line ← position_of (if in_order then one_number else zero_number) v (map (λ l. cell r l 0) (range_with_len 0 (lines r)))
  cell r line i
