-- What SUMPRODUCT adds, place by place.
use Rattle.std.specs.Prelude.{◌≡◌, ℕ, true, List, fold, Option, None, Result, Ok, Err}
use Rattle.wi_fraction.specs.Number as numbers
use Rattle.wi_values.specs.Address.{Area, cells_of, is_within_one}
use Rattle.wi_values.specs.declared.value.ErrorKind.{ErrorKind}
use Rattle.wi_values.specs.declared.value.Value.{Value}
use Rattle.wi_standard_functions.specs.Arguments.{Region}
use Rattle.wi_standard_functions.specs.Arithmetic.{addition, multiplication}
use Rattle.wi_standard_functions.specs.Convert.{zero_number, one_number}
use Rattle.wi_standard_functions.specs.Inner.Named.{sum_of_items, with_number}
use Rattle.wi_standard_functions.specs.Mathematical.{factor, of_one_size, products}
use Rattle.wi_standard_functions.specs.Sequence.{number_of_item}
use Rattle.wi_standard_functions.specs.Steps.{and_then, map_until_error}
use Rattle.wi_arguments.specs.declared.argument.Argument as given
use Rattle.wi_value_functions.specs.declared.no_value.Stop.TheVariants.{Memory}
use Rattle.wi_arguments.specs.Arguments.{area_referred}
use Rattle.wi_value_functions.specs.declared.no_value.Stop.{Stop}
use Rattle.wi_value_functions.specs.declared.no_value.NoValue.{NoValue}
use Rattle.wi_value_functions.specs.declared.no_value.NoValue.TheVariants.{Error, Stopped}
use Rattle.wi_lookup_functions.specs.Inner.Sums.{same_place}

-- the rectangles that all arguments refer to
abbrev pub areas_of : List given.Argument → Result (List Area) ErrorKind
areas_of args = map_until_error area_referred args

-- why there are none
abbrev pub IsAreaError : List given.Argument → NoValue (Stop ℕ) → Type 0
IsAreaError args (Error e) = areas_of args ≡ Err e
IsAreaError args (Stopped s) = s ≡ Memory

-- the cell's value isn't known, and it is in one of the rectangles
abbrev pub IsMissingInAny : (ℕ → Option Value) → List Area → ℕ → Type 0
IsMissingInAny known rs c = (known c ≡ None) × (is_within_one rs c ≡ true)

-- the sum of the products at all places of regions, where these have one size
abbrev pub sum_over : List Region → Result numbers.Number ErrorKind
sum_over regions = and_then (λ rs. sum_of_items (products rs)) (of_one_size regions)

-- a product with one more cell
abbrev pub with_factor : numbers.Number → Value → Result numbers.Number ErrorKind
with_factor x v = and_then (with_number multiplication x) (number_of_item (factor v))

-- the product of the cells at a place, which the cell of the first rectangle tells
abbrev pub product_there : (ℕ → Value) → Area → List Area → ℕ → Result numbers.Number ErrorKind
product_there cells r rs c = fold (λ before s. and_then (λ x. with_factor x (cells (same_place r s c))) before) (Ok one_number) rs

-- a sum with the product at one more place, or the error met before
abbrev pub with_place : (ℕ → Value) → Area → List Area → Result numbers.Number ErrorKind → ℕ → Result numbers.Number ErrorKind
with_place cells r rs before c = and_then (λ x. and_then (addition x) (product_there cells r rs c)) before

-- the sum of the products at all places
abbrev pub sum_through : (ℕ → Value) → Area → List Area → Result numbers.Number ErrorKind
sum_through cells r rs = fold (with_place cells r rs) (Ok zero_number) (cells_of r)
