-- What each function gives for the arguments of a call.
use Rattle.std.specs.Prelude.{Bool, List, map, None}
use Rattle.wi_values.specs.declared.value.Value.{Value as AnyValue}
use Rattle.wi_standard_functions.specs.Arguments.{Argument}
use Rattle.wi_standard_functions.specs.Inner.Named.{and_value, choose_of, count_a_value, count_value, concatenated, false_value, find_of, h_lookup_value, if_error_value, if_na_value, is_no_text, is_other_error, max_value, mid_of, min_value, na_value, of_none, of_one, of_test, of_three, of_three_or, of_two, of_two_or, of_values, one_value, or_value, power_value, product_value, sum_if_by, sum_value, true_value, v_lookup_value, zero_value}
use Rattle.wi_standard_functions.specs.Information.{count_if_value, is_empty_value, is_number_value, is_text_value, is_logical_value, is_error_value, is_not_available, value_value}
use Rattle.wi_standard_functions.specs.Logical.{not_value, if_value}
use Rattle.wi_standard_functions.specs.Lookup.{index_value, match_value}
use Rattle.wi_standard_functions.specs.Mathematical.{abs_value, sign_value, quotient_value, mod_value, sum_product_value}
use Rattle.wi_standard_functions.specs.Rounding.{int_value, round_value}
use Rattle.wi_standard_functions.specs.Statistical.{average_value}
use Rattle.wi_standard_functions.specs.Text.{len_value, left_value, right_value, exact_value, rept_value}
use Rattle.wi_value_functions.specs.declared.function.Function.{Function}
use Rattle.wi_value_functions.specs.declared.function.Function.TheVariants.{Lazy, Values, References}
use Rattle.wi_value_functions.specs.declared.function.LazyFunction.TheVariants.{If, IfError, IfNa, Choose}
use Rattle.wi_value_functions.specs.declared.function.FoldFunction.TheVariants.{And, Average, Count, CountA, Max, Min, Or, Product, Sum}
use Rattle.wi_value_functions.specs.declared.function.LookupFunction.TheVariants.{CountIf, HLookup, Index, Match, SumIf, SumProduct, VLookup}
use Rattle.wi_value_functions.specs.declared.function.ReferenceFunction.TheVariants.{Fold, Lookup}
use Rattle.wi_value_functions.specs.declared.function.Test.{Test}
use Rattle.wi_value_functions.specs.declared.function.Test.TheVariants as test
use Rattle.wi_value_functions.specs.declared.function.TextFunction.TheVariants.{Concatenate, Exact, Find, Left, Len, Mid, Rept, Right}
use Rattle.wi_value_functions.specs.declared.function.ValueFunction.{ValueFunction}
use Rattle.wi_value_functions.specs.declared.function.ValueFunction.TheVariants.{Abs, False, Int, Is, Mod, Na, Not, Power, Quotient, Round, Sign, Text, True, Value}

-- what ISBLANK, ISERR, ISERROR and so on test
abbrev pub passes : Test → AnyValue → Bool
passes test.Blank v = is_empty_value v
passes test.Err v = is_other_error v
passes test.Error v = is_error_value v
passes test.Logical v = is_logical_value v
passes test.Na v = is_not_available v
passes test.NonText v = is_no_text v
passes test.Number v = is_number_value v
passes test.Text v = is_text_value v

-- what a function gives for the arguments of a call, of which there are as many as it takes
abbrev pub applied_to_arguments : Function → List Argument → AnyValue
applied_to_arguments (Lazy If) args = if_value args
applied_to_arguments (Lazy IfError) args = of_two if_error_value args
applied_to_arguments (Lazy IfNa) args = of_two if_na_value args
applied_to_arguments (Lazy Choose) args = choose_of args
applied_to_arguments (Values Abs) args = of_one abs_value args
applied_to_arguments (Values False) args = of_none false_value args
applied_to_arguments (Values Int) args = of_one int_value args
applied_to_arguments (Values (Is test)) args = of_test (passes test) args
applied_to_arguments (Values Mod) args = of_two mod_value args
applied_to_arguments (Values Na) args = of_none na_value args
applied_to_arguments (Values Not) args = of_one not_value args
applied_to_arguments (Values Power) args = of_two power_value args
applied_to_arguments (Values Quotient) args = of_two quotient_value args
applied_to_arguments (Values (Round mode)) args = of_two_or zero_value (round_value mode) args
applied_to_arguments (Values Sign) args = of_one sign_value args
applied_to_arguments (Values True) args = of_none true_value args
applied_to_arguments (Values Value) args = of_one value_value args
applied_to_arguments (Values (Text Concatenate)) args = of_values concatenated args
applied_to_arguments (Values (Text Exact)) args = of_two exact_value args
applied_to_arguments (Values (Text Find)) args = of_three_or one_value find_of args
applied_to_arguments (Values (Text Left)) args = of_two_or one_value left_value args
applied_to_arguments (Values (Text Len)) args = of_one len_value args
applied_to_arguments (Values (Text Mid)) args = of_three mid_of args
applied_to_arguments (Values (Text Rept)) args = of_two rept_value args
applied_to_arguments (Values (Text Right)) args = of_two_or one_value right_value args
applied_to_arguments (References (Fold And)) args = and_value args
applied_to_arguments (References (Fold Average)) args = average_value args
applied_to_arguments (References (Fold Count)) args = count_value args
applied_to_arguments (References (Fold CountA)) args = count_a_value args
applied_to_arguments (References (Lookup CountIf)) args = count_if_value args
applied_to_arguments (References (Lookup HLookup)) args = h_lookup_value args
applied_to_arguments (References (Lookup Index)) args = index_value args
applied_to_arguments (References (Lookup Match)) args = match_value args
applied_to_arguments (References (Fold Max)) args = max_value args
applied_to_arguments (References (Fold Min)) args = min_value args
applied_to_arguments (References (Fold Or)) args = or_value args
applied_to_arguments (References (Fold Product)) args = product_value args
applied_to_arguments (References (Fold Sum)) args = sum_value args
applied_to_arguments (References (Lookup SumIf)) args = sum_if_by args
applied_to_arguments (References (Lookup SumProduct)) args = sum_product_value args
applied_to_arguments (References (Lookup VLookup)) args = v_lookup_value args

-- arguments with these values, none of which is a reference
abbrev pub arguments_of : List AnyValue → List Argument
arguments_of vs = map (λ v. record { value = v; region = None }) vs

-- what a function of values gives for values; whether they are those of references does not count
abbrev pub applied_to_values : ValueFunction → List AnyValue → AnyValue
applied_to_values f vs = applied_to_arguments (Values f) (arguments_of vs)
