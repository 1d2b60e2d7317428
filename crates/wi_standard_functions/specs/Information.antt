-- OpenFormula, "Information Functions".
use Rattle.std.specs.Prelude.{◌≡◌, ◌↔◌, Bool, true, false, List, count_by, Option, Some, ok_or}
use Rattle.wi_fraction.specs.Number as numbers
use Rattle.wi_fraction.specs.Text.{Bytes}
use Rattle.wi_values.specs.Imported.{SpellsNumber}
use Rattle.wi_values.proofs.Imports.{the_number}
use Rattle.wi_values.specs.declared.value.ErrorKind.TheVariants.{BadValue, NotAvailable}
use Rattle.wi_values.specs.declared.value.Value.{Value}
use Rattle.wi_values.specs.declared.value.Value.TheVariants.{Empty, Number, Text, Logical, Fault}
use Rattle.wi_standard_functions.specs.Arguments.{Argument, region_at, value_at}
use Rattle.wi_standard_functions.specs.Arithmetic.{whole_value}
use Rattle.wi_standard_functions.specs.Criterion.{meets_criterion}
use Rattle.wi_standard_functions.specs.FirstError.{no_error}
use Rattle.wi_standard_functions.specs.Sequence.{sequence_of, value_of_item}
use Rattle.wi_standard_functions.specs.Steps.{◌>>=◌}

-- ---- tests of a value; no error passes through

abbrev pub is_empty_value : Value → Bool
is_empty_value Empty = true
is_empty_value v = false

abbrev pub is_number_value : Value → Bool
is_number_value (Number x) = true
is_number_value v = false

abbrev pub is_text_value : Value → Bool
is_text_value (Text t) = true
is_text_value v = false

abbrev pub is_logical_value : Value → Bool
is_logical_value (Logical b) = true
is_logical_value v = false

abbrev pub is_error_value : Value → Bool
is_error_value (Fault e) = true
is_error_value v = false

abbrev pub is_not_available : Value → Bool
is_not_available (Fault NotAvailable) = true
is_not_available v = false

-- ---- counts

-- COUNT and COUNTA: how many items meet the test; an error is never the result
abbrev pub counted : (Value → Bool) → List Argument → Value
counted test args = whole_value (count_by (λ item. test (value_of_item item)) (sequence_of args))

abbrev pub count_if_value : List Argument → Value
count_if_value args = do
  r ← region_at args 0
  criterion ← no_error (value_at args 1)
  whole_value (count_by (meets_criterion criterion) r.values)

abbrev pub number_in : (text : Bytes)
    → (o : Option numbers.Number) × ((x : numbers.Number) → SpellsNumber text x ↔ (o ≡ Some x))
number_in text = the_number text

abbrev pub value_value : Value → Value
value_value (Number x) = Number x
value_value (Text t) = do x ← ok_or (number_in t).0 BadValue; Number x
value_value (Fault e) = Fault e
value_value v = Fault BadValue
