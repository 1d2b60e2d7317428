-- OpenFormula, "Mathematical Functions".
use Rattle.std.specs.Prelude.{ℕ, pos, ◌==◌, ◌&&◌, nat_le, Bool, List, [], ◌∷◌, map, filter, zip, length, slice_get, unwrap_or, Result, Ok, Err, int_lt, if◌then◌else◌}
use Rattle.std.specs.List.{range_with_len, list_all}
use Rattle.std.specs.Ordering.{int_eq}
use Rattle.wi_fraction.specs.Number as numbers
use Rattle.wi_fraction.specs.Arithmetic.{negated}
use Rattle.wi_fraction.specs.Rounding.{floored, rounded}
use Rattle.wi_fraction.specs.declared.rounding.Mode.TheVariants.{Toward}
use Rattle.wi_values.specs.declared.value.ErrorKind.{ErrorKind}
use Rattle.wi_values.specs.declared.value.ErrorKind.TheVariants.{BadValue}
use Rattle.wi_values.specs.declared.value.Value.{Value}
use Rattle.wi_values.specs.declared.value.Value.TheVariants.{Empty, Number, Fault}
use Rattle.wi_standard_functions.specs.Arguments.{Argument, Region, region_referred, region_at, value_at}
use Rattle.wi_standard_functions.specs.Arithmetic.{Operation, addition, division, multiplication, subtraction}
use Rattle.wi_standard_functions.specs.Convert.{to_number, zero_number, one_number}
use Rattle.wi_standard_functions.specs.Criterion.{meets_criterion}
use Rattle.wi_standard_functions.specs.FirstError.{no_error}
use Rattle.wi_standard_functions.specs.Sequence.{Item, from_cell, scalar, sequence_of, number_fold}
use Rattle.wi_standard_functions.specs.Steps.{◌>>=◌, map_until_error}

-- ---- of one number, or of two

abbrev pub abs_value : Value → Value
abs_value n = do x ← to_number n; Number (if int_lt x.num (pos 0) then negated x else x)

abbrev pub sign_value : Value → Value
sign_value n = do
  x ← to_number n
  Number (if int_lt x.num (pos 0) then negated one_number else if int_eq x.num (pos 0) then zero_number else one_number)

abbrev pub quotient_value : Value → Value → Value
quotient_value n m = do x ← to_number n; y ← to_number m; q ← division x y; Number (rounded Toward q)

-- a - b * INT(a / b), step by step
abbrev pub mod_value : Value → Value → Value
mod_value n m = do
  a ← to_number n
  b ← to_number m
  q ← division a b
  p ← multiplication b (floored q)
  r ← subtraction a p
  Number r

-- ---- of sequences

-- SUM and PRODUCT
abbrev pub folded : Operation → numbers.Number → List Argument → Value
folded calculate start args = do x ← number_fold calculate start (sequence_of args); Number x

-- ---- of regions

abbrev pub same_size : Region → Region → Bool
same_size r s = (r.height == s.height) && (r.width == s.width)

abbrev pub of_one_size : List Region → Result (List Region) ErrorKind
of_one_size [] = Ok []
of_one_size (r ∷ rs) = if list_all (same_size r) rs then Ok (r ∷ rs) else Err BadValue

-- the third region's cells where the first's meet the criterion; without a third it is the first
abbrev pub sum_if_value : List Argument → Value
sum_if_value args = do
  r ← region_at args 0
  criterion ← no_error (value_at args 1)
  s ← if nat_le 3 (length args) then region_at args 2 else Ok r
  _ ← of_one_size (r ∷ s ∷ [])
  x ← number_fold addition zero_number (map (λ p. from_cell p.1) (filter (λ p. meets_criterion criterion p.0) (zip r.values s.values)))
  Number x

-- in SUMPRODUCT any other counts as 0
abbrev pub factor : Value → Item
factor (Number x) = from_cell (Number x)
factor (Fault e) = from_cell (Fault e)
factor v = from_cell (Number zero_number)

abbrev pub product_at : List Region → ℕ → Value
product_at rs i = do
  x ← number_fold multiplication one_number (map (λ r. factor (unwrap_or (slice_get r.values i) Empty)) rs)
  Number x

abbrev pub products : List Region → List Item
products [] = []
products (r ∷ rs) = map (λ i. scalar (product_at (r ∷ rs) i)) (range_with_len 0 (length r.values))

abbrev pub sum_product_value : List Argument → Value
sum_product_value args = do
  regions ← map_until_error region_referred args
  rs ← of_one_size regions
  x ← number_fold addition zero_number (products rs)
  Number x
