-- A function of values gives what it gives for the arguments' values, whether they are those of references or not.
use Rattle.wi_value_functions.proofs.Words.{◌≡◌, ℕ, zero, suc, List, [], ◌∷◌, refl, ap, map, Argument, value_or, of_one, of_two_or, of_three_or, zero_value, one_value, power_value, not_value, value_value, abs_value, sign_value, quotient_value, mod_value, int_value, round_value, len_value, left_value, right_value, mid_of, concatenated, exact_value, find_of, rept_value, Value as AnyValue, Empty, Logical, applied_to_arguments, applied_to_values, arguments_of, passes, Values, Concatenate, Exact, Find, Left, Len, Mid, Rept, Right, ValueFunction, Abs, False, Int, Is, Mod, Na, Not, Power, Quotient, Round, Sign, True}
use Rattle.wi_value_functions.specs.declared.function.ValueFunction.TheVariants.{Text, Value}

-- the arguments' values
abbrev pub values_of : List Argument → List AnyValue
values_of args = map (λ (a : Argument). a.value) args

-- the arguments, none taken for a reference
abbrev plain : List Argument → List Argument
plain args = arguments_of (values_of args)

same_or : (default : AnyValue) (args : List Argument) (i : ℕ) → value_or default args i ≡ value_or default (plain args) i
same_or default [] i = refl
same_or default (a ∷ args) zero = refl
same_or default (a ∷ args) (suc i) = same_or default args i

same_values : (args : List Argument) → values_of args ≡ values_of (plain args)
same_values [] = refl
same_values (a ∷ args) = ap (λ vs. a.value ∷ vs) (same_values args)

-- ---- functions by how many values they take

one : (f : AnyValue → AnyValue) (args : List Argument) → of_one f args ≡ of_one f (plain args)
one f args = ap f (same_or Empty args 0)

two_or : (default : AnyValue) (f : AnyValue → AnyValue → AnyValue) (args : List Argument) → of_two_or default f args ≡ of_two_or default f (plain args)
two_or default f args = λ i. f (same_or Empty args 0 i) (same_or default args 1 i)

three_or : (default : AnyValue) (f : AnyValue → AnyValue → AnyValue → AnyValue) (args : List Argument) → of_three_or default f args ≡ of_three_or default f (plain args)
three_or default f args = λ i. f (same_or Empty args 0 i) (same_or Empty args 1 i) (same_or default args 2 i)

-- ---- each function

pub values_alone : (f : ValueFunction) (args : List Argument) → applied_to_arguments (Values f) args ≡ applied_to_values f (values_of args)
values_alone Abs args = one abs_value args
values_alone False args = refl
values_alone Int args = one int_value args
values_alone (Is test) args = one (λ v. Logical (passes test v)) args
values_alone Mod args = two_or Empty mod_value args
values_alone Na args = refl
values_alone Not args = one not_value args
values_alone Power args = two_or Empty power_value args
values_alone Quotient args = two_or Empty quotient_value args
values_alone (Round mode) args = two_or zero_value (round_value mode) args
values_alone Sign args = one sign_value args
values_alone True args = refl
values_alone Value args = one value_value args
values_alone (Text Concatenate) args = ap concatenated (same_values args)
values_alone (Text Exact) args = two_or Empty exact_value args
values_alone (Text Find) args = three_or one_value find_of args
values_alone (Text Left) args = two_or one_value left_value args
values_alone (Text Len) args = one len_value args
values_alone (Text Mid) args = three_or Empty mid_of args
values_alone (Text Rept) args = two_or Empty rept_value args
values_alone (Text Right) args = two_or one_value right_value args
