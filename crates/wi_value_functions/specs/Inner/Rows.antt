-- The rows of the code's table.
use Rattle.std.specs.Prelude.{ℕ, ◌&&◌, Bool, true, nat_le, List, find, Option, Some, None}
use Rattle.std.specs.List.{list_all, list_any}
use Rattle.std.specs.Str.{bytes_eq}
use Rattle.wi_fraction.specs.Text.{Bytes}
use Rattle.wi_standard_functions.specs.Functions as functions
use Rattle.wi_standard_functions.specs.Arguments.{Argument}
use Rattle.wi_standard_functions.specs.Information.{is_error_value, is_not_available}
use Rattle.wi_standard_functions.specs.Inner.Named.{of_two}
use Rattle.wi_standard_functions.specs.Logical.{joined, replaced_if}
use Rattle.wi_standard_functions.specs.Lookup.{choose_value}
use Rattle.wi_standard_functions.specs.Mathematical.{sum_if_value}
use Rattle.wi_standard_functions.specs.Text.{find_value}
use Rattle.wi_values.specs.declared.value.Value.{Value}
use Rattle.wi_value_functions.specs.Applied.{applied_to_arguments}
use Rattle.wi_value_functions.specs.declared.function.Function.{Function}
use Rattle.wi_value_functions.specs.declared.function.Function.TheVariants.{Lazy, Values, References}
use Rattle.wi_value_functions.specs.declared.function.LazyFunction.TheVariants.{Choose, IfError, IfNa}
use Rattle.wi_value_functions.specs.declared.function.FoldFunction.TheVariants.{And, Or}
use Rattle.wi_value_functions.specs.declared.function.LookupFunction.TheVariants.{SumIf}
use Rattle.wi_value_functions.specs.declared.function.ReferenceFunction.TheVariants.{Fold, Lookup}
use Rattle.wi_value_functions.specs.declared.function.TextFunction.TheVariants.{Find}
use Rattle.wi_value_functions.specs.declared.function.ValueFunction.TheVariants.{Text}
use Rattle.wi_value_functions.specs.declared.table.Row.{Row}

-- None is any number
abbrev pub is_not_above : ℕ → Option ℕ → Bool
is_not_above n None = true
is_not_above n (Some m) = nat_le n m

-- which counts of parameters a function takes that has at least so many, and at most so many
abbrev pub takes_between : ℕ → Option ℕ → ℕ → Bool
takes_between least None = nat_le least
takes_between least (Some greatest) = λ n. nat_le least n && nat_le n greatest

-- what a function gives for the arguments of a call, as the definitions have it
abbrev pub given : Function → List Argument → Value
given (Lazy IfError) args = of_two (replaced_if is_error_value) args
given (Lazy IfNa) args = of_two (replaced_if is_not_available) args
given (Lazy Choose) args = choose_value args
given (Values (Text Find)) args = find_value args
given (References (Fold And)) args = joined (list_all (λ b. b)) args
given (References (Fold Or)) args = joined (list_any (λ b. b)) args
given (References (Lookup SumIf)) args = sum_if_value args
given f args = applied_to_arguments f args

-- a row as the definitions have it
abbrev pub function_of : Row → functions.Function
function_of row = record { name = row.name.now; takes = takes_between row.least row.greatest; value = given row.function }

unfoldable pub function_named : Bytes → Option functions.Function
function_named name = find (λ (f : functions.Function). bytes_eq f.name name) functions.functions
