-- OpenFormula, "Statistical Functions".
use Rattle.std.specs.Prelude.{Bool, List, length, unwrap_or, if◌then◌else◌}
use Rattle.std.specs.List.{reduce}
use Rattle.std.specs.declared.cmp.Ordering.{Ordering}
use Rattle.wi_fraction.specs.Order.{cross_cmp}
use Rattle.wi_values.specs.declared.value.Value.{Value}
use Rattle.wi_values.specs.declared.value.Value.TheVariants.{Number}
use Rattle.wi_standard_functions.specs.Arguments.{Argument}
use Rattle.wi_standard_functions.specs.Arithmetic.{addition, division, whole_number}
use Rattle.wi_standard_functions.specs.Convert.{zero_number}
use Rattle.wi_standard_functions.specs.Sequence.{sequence_of, all_that_count, number_fold, number_of_item}
use Rattle.wi_standard_functions.specs.Steps.{◌>>=◌}

-- the least number, or the greatest, as the test says; of none 0
abbrev pub extreme_value : (Ordering → Bool) → List Argument → Value
extreme_value test args = do
  xs ← all_that_count number_of_item (sequence_of args)
  Number (unwrap_or (reduce (λ x y. if test (cross_cmp y x) then y else x) xs) zero_number)

abbrev pub average_value : List Argument → Value
average_value args = do
  total ← number_fold addition zero_number (sequence_of args)
  xs ← all_that_count number_of_item (sequence_of args)
  count ← whole_number (length xs)
  mean ← division total count
  Number mean
