-- The cells that SUMIF adds.
use Rattle.std.specs.Prelude.{◌≡◌, ℕ, ◌+◌, ◌-◌, ◌==◌, ◌&&◌, ◌||◌, Bool, true, List, map, filter, zip, nat_lt, Option, Some, None, Result, Ok, Err, if◌then◌else◌}
use Rattle.wi_fraction.specs.Number as numbers
use Rattle.wi_values.specs.Address.{Area, is_within, place, row_of, column_of, rows, columns, height, width}
use Rattle.wi_values.specs.declared.value.ErrorKind.{ErrorKind}
use Rattle.wi_values.specs.declared.value.Value.{Value}
use Rattle.wi_standard_functions.specs.Arithmetic.{addition}
use Rattle.wi_standard_functions.specs.Inner.Named.{with_number}
use Rattle.wi_standard_functions.specs.Sequence.{Item, from_cell, number_of_item}
use Rattle.wi_standard_functions.specs.Steps.{and_then}
use Rattle.wi_value_functions.specs.declared.no_value.NoValue.{NoValue}
use Rattle.wi_value_functions.specs.declared.no_value.NoValue.TheVariants.{Error, Stopped}
use Rattle.wi_value_functions.specs.declared.no_value.Stop.{Stop}
use Rattle.wi_value_functions.specs.declared.no_value.Stop.TheVariants.{Missing}
use Rattle.wi_lookup_functions.specs.declared.criterion.Criterion.{Criterion}
use Rattle.wi_lookup_functions.specs.Inner.Meeting.{is_met}

-- the rectangles have as many rows and columns
abbrev pub same_extent : Area → Area → Bool
same_extent r s = (height r == height s) && (width r == width s)

-- the cell of the second rectangle at the place that a cell has in the first
abbrev pub same_place : Area → Area → ℕ → ℕ
same_place r s c = place (row_of s.first + (row_of c - row_of r.first)) (column_of s.first + (column_of c - column_of r.first))

-- that place, where it lies in the sheet
abbrev pub place_there : Area → Area → ℕ → Option ℕ
place_there r s c =
    if r.first == s.first then Some c else
    if nat_lt (row_of s.first + (row_of c - row_of r.first)) rows && nat_lt (column_of s.first + (column_of c - column_of r.first)) columns
    then Some (same_place r s c) else None

-- of the second values, those at the places where the first pass a test
abbrev pub values_where : (Value → Bool) → List Value → List Value → List Item
values_where test vs ws = map (λ p. from_cell p.1) (filter (λ p. test p.0) (zip vs ws))

-- a sum with one more cell, or the error met before
abbrev pub with_cell : Result numbers.Number ErrorKind → Value → Result numbers.Number ErrorKind
with_cell before v = and_then (λ x. and_then (with_number addition x) (number_of_item (from_cell v))) before

-- a sum with the cell that stands beside one, where that one's value meets the criterion
abbrev pub with_met : Criterion → (ℕ → ℕ) → (ℕ → Value) → Result numbers.Number ErrorKind → ℕ → Value → Result numbers.Number ErrorKind
with_met criterion other cells before c v = if is_met criterion v then with_cell before (cells (other c)) else before

-- what is known of a cell beside one that has this value
abbrev pub known_there : (ℕ → Option Value) → ℕ → Value → ℕ → Option Value
known_there known c v d = if d == c then Some v else known d

-- an error met is no value
abbrev pub or_error : Result numbers.Number ErrorKind → Result numbers.Number (NoValue (Stop ℕ))
or_error (Ok x) = Ok x
or_error (Err e) = Err (Error e)

-- a sum so far, or why there is none, with a cell of which this is known
abbrev pub with_known : Result numbers.Number (NoValue (Stop ℕ)) → ℕ → Option Value → Result numbers.Number (NoValue (Stop ℕ))
with_known (Err n) d o = Err n
with_known (Ok x) d None = Err (Stopped (Missing d))
with_known (Ok x) d (Some v) = or_error (with_cell (Ok x) v)

abbrev pub with_place : (ℕ → Option Value) → Result numbers.Number (NoValue (Stop ℕ)) → ℕ → Value → Option ℕ → Result numbers.Number (NoValue (Stop ℕ))
with_place known before c v None = before
with_place known before c v (Some d) = with_known before d (known_there known c v d)

-- and with the cell beside one, as far as it is known, where that one's value meets the criterion
abbrev pub with_met_known : (ℕ → Option Value) → Criterion → Area → Area → Result numbers.Number (NoValue (Stop ℕ)) → ℕ → Value → Result numbers.Number (NoValue (Stop ℕ))
with_met_known known criterion r s before c v = if is_met criterion v then with_place known before c v (place_there r s c) else before

-- the cell's value isn't known, and it is in one of the rectangles
abbrev pub IsMissingInEither : (ℕ → Option Value) → Area → Area → ℕ → Type 0
IsMissingInEither known r s c = (known c ≡ None) × ((is_within r c || is_within s c) ≡ true)
