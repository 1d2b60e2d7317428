-- Sequences of items, as OpenFormula's NumberSequence and LogicalSequence, and what counts of them by this project's
-- rules.
use Rattle.std.specs.Prelude.{Bool, List, [], ◌∷◌, map, flat_map, fold, Option, Some, None, option_to_list, Result, Ok, Err}
use Rattle.std.specs.Option.{option_map_or}
use Rattle.wi_fraction.specs.Number as numbers
use Rattle.wi_values.specs.declared.value.ErrorKind.{ErrorKind}
use Rattle.wi_values.specs.declared.value.Value.{Value}
use Rattle.wi_values.specs.declared.value.Value.TheVariants.{Empty, Number, Text, Fault}
use Rattle.wi_standard_functions.specs.Arguments.{Argument, Region}
use Rattle.wi_standard_functions.specs.Arithmetic.{Operation}
use Rattle.wi_standard_functions.specs.Convert.{to_number, to_logical}
use Rattle.wi_standard_functions.specs.Steps.{and_then, map_until_error}

-- the value of a reference's cell, or another
pub data Item : Type 0 where
  from_cell : Value → Item
  scalar : Value → Item

-- a reference gives its cells row by row, even one
abbrev pub sequence_of : List Argument → List Item
sequence_of args = flat_map (λ (a : Argument). option_map_or (λ (r : Region). map from_cell r.values) a.region (scalar a.value ∷ [])) args

abbrev pub value_of_item : Item → Value
value_of_item (from_cell v) = v
value_of_item (scalar v) = v

-- ---- what counts of an item

-- a scalar is converted; of cells the Numbers count, an error is the result, and any other is passed over
abbrev pub number_of_item : Item → Result (Option numbers.Number) ErrorKind
number_of_item (from_cell (Number x)) = Ok (Some x)
number_of_item (from_cell (Fault e)) = Err e
number_of_item (from_cell v) = Ok None
number_of_item (scalar v) = and_then (λ x. Ok (Some x)) (to_number v)

-- of cells the Numbers and Logicals count
abbrev pub logical_of_item : Item → Result (Option Bool) ErrorKind
logical_of_item (from_cell Empty) = Ok None
logical_of_item (from_cell (Text t)) = Ok None
logical_of_item (from_cell v) = and_then (λ b. Ok (Some b)) (to_logical v)
logical_of_item (scalar v) = and_then (λ b. Ok (Some b)) (to_logical v)

abbrev pub all_that_count : {B : Type 0} → (Item → Result (Option B) ErrorKind) → List Item → Result (List B) ErrorKind
all_that_count counts items = and_then (λ found. Ok (flat_map option_to_list found)) (map_until_error counts items)

-- ---- the fold of a sequence

-- the first error met, also of a step, is the result
abbrev pub number_fold : Operation → numbers.Number → List Item → Result numbers.Number ErrorKind
number_fold calculate start items =
    fold (λ before item. and_then (λ x. and_then (λ found. option_map_or (calculate x) found (Ok x)) (number_of_item item)) before)
    (Ok start) items
