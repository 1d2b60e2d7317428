-- OpenFormula, "Text Functions". Characters are Unicode scalar values.
use Rattle.std.specs.Prelude.{ℕ, ℤ, pos, ◌+◌, ◌-◌, nat_eq, int_lt, unsigned_abs, List, take, drop, length, map, find, chars, bytes_eq, encode_utf8_all, Option, Result, Ok, Err, ok_or, if◌then◌else◌}
use Rattle.std.specs.List.{concat, repeat, starts_with, range_with_len}
use Rattle.wi_values.specs.declared.value.ErrorKind.{ErrorKind}
use Rattle.wi_values.specs.declared.value.ErrorKind.TheVariants.{BadValue}
use Rattle.wi_values.specs.declared.value.Value.{Value}
use Rattle.wi_values.specs.declared.value.Value.TheVariants.{Logical, Number}
use Rattle.wi_standard_functions.specs.Arguments.{Argument, value_at, value_or}
use Rattle.wi_standard_functions.specs.Arithmetic.{whole_value, limited_text}
use Rattle.wi_standard_functions.specs.Convert.{to_text, to_whole, one_number}
use Rattle.wi_standard_functions.specs.Steps.{◌>>=◌, map_until_error}

abbrev pub at_least : ℕ → ℤ → Result ℕ ErrorKind
at_least bound k = if int_lt k (pos bound) then Err BadValue else Ok (unsigned_abs k)

abbrev pub of_chars : List ℕ → Value
of_chars cs = limited_text (encode_utf8_all cs)

abbrev pub len_value : Value → Value
len_value t = do s ← to_text t; whole_value (length (chars s))

abbrev pub left_value : Value → Value → Value
left_value t count = do s ← to_text t; k ← to_whole count; n ← at_least 0 k; of_chars (take n (chars s))

abbrev pub right_value : Value → Value → Value
right_value t count = do s ← to_text t; k ← to_whole count; n ← at_least 0 k; of_chars (drop (length (chars s) - n) (chars s))

-- the second counts from 1
abbrev pub mid_value : List Argument → Value
mid_value args = do
  s ← to_text (value_at args 0)
  j ← to_whole (value_at args 1)
  k ← to_whole (value_at args 2)
  first ← at_least 1 j
  n ← at_least 0 k
  of_chars (take n (drop (first - 1) (chars s)))

abbrev pub concatenate_value : List Argument → Value
concatenate_value args = do ts ← map_until_error to_text (map (λ (a : Argument). a.value) args); limited_text (concat ts)

abbrev pub exact_value : Value → Value → Value
exact_value t u = do s ← to_text t; r ← to_text u; Logical (bytes_eq s r)

-- the first position, from 0, at this one or behind it, where the characters stand in others
abbrev pub first_from : ℕ → List ℕ → List ℕ → Option ℕ
first_from from sought cs = find (λ i. starts_with nat_eq (drop i cs) sought) (range_with_len from (length cs + 1 - from))

-- the third, 1 by default, counts from 1
abbrev pub find_value : List Argument → Value
find_value args = do
  sought ← to_text (value_at args 0)
  s ← to_text (value_at args 1)
  k ← to_whole (value_or (Number one_number) args 2)
  from ← at_least 1 k
  i ← ok_or (first_from (from - 1) (chars sought) (chars s)) BadValue
  whole_value (i + 1)

abbrev pub rept_value : Value → Value → Value
rept_value t count = do s ← to_text t; k ← to_whole count; n ← at_least 0 k; limited_text (repeat n s)
