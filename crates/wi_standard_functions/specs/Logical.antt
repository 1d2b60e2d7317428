-- OpenFormula, "Logical Functions".
use Rattle.std.specs.Prelude.{Bool, true, false, not, nat_lt, List, length, if◌then◌else◌}
use Rattle.wi_values.specs.declared.value.ErrorKind.TheVariants.{BadValue}
use Rattle.wi_values.specs.declared.value.Value.{Value}
use Rattle.wi_values.specs.declared.value.Value.TheVariants.{Logical, Fault}
use Rattle.wi_standard_functions.specs.Arguments.{Argument, value_at, value_or}
use Rattle.wi_standard_functions.specs.Convert.{to_logical}
use Rattle.wi_standard_functions.specs.Sequence.{sequence_of, all_that_count, logical_of_item}
use Rattle.wi_standard_functions.specs.Steps.{◌>>=◌}

abbrev pub not_value : Value → Value
not_value l = do b ← to_logical l; Logical (not b)

-- AND and OR; of none there is no result
abbrev pub joined : (List Bool → Bool) → List Argument → Value
joined test args = do
  bs ← all_that_count logical_of_item (sequence_of args)
  (if nat_lt 0 (length bs) then Logical (test bs) else Fault BadValue)

-- Only the error of the branch that is chosen counts.
abbrev pub if_value : List Argument → Value
if_value args = do
  b ← to_logical (value_at args 0)
  (if b then value_or (Logical true) args 1 else value_or (Logical false) args 2)

-- IFERROR and IFNA
abbrev pub replaced_if : (Value → Bool) → Value → Value → Value
replaced_if test v w = if test v then w else v
