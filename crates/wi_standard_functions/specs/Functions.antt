-- The functions by their names, and what a call of one gives (OpenFormula, "Standard Operators and Functions").
use Rattle.std.specs.Prelude.{ℕ, ◌&&◌, Bool, true, false, not, nat_le, List, [], ◌∷◌, length, find, codes, if◌then◌else◌}
use Rattle.std.specs.List.{list_all, list_any}
use Rattle.std.specs.Option.{option_map_or}
use Rattle.std.specs.Ordering.{is_gt, is_lt}
use Rattle.std.specs.Str.{bytes_eq}
use Rattle.wi_fraction.specs.declared.rounding.Mode.TheVariants.{HalfAway, Away, Toward}
use Rattle.wi_fraction.specs.Text.{Bytes}
use Rattle.wi_values.specs.declared.value.ErrorKind.TheVariants.{BadValue, UnknownName, NotAvailable}
use Rattle.wi_values.specs.declared.value.Value.{Value}
use Rattle.wi_values.specs.declared.value.Value.TheVariants.{Number, Logical, Fault}
use Rattle.wi_standard_functions.specs.Arguments.{Argument, value_at, value_or}
use Rattle.wi_standard_functions.specs.Arithmetic.{addition, calculated, exponentiation, multiplication}
use Rattle.wi_standard_functions.specs.Convert.{zero_number, one_number}
use Rattle.wi_standard_functions.specs.Information.{count_if_value, counted, is_empty_value, is_error_value, is_logical_value, is_not_available, is_number_value, is_text_value, value_value}
use Rattle.wi_standard_functions.specs.Logical.{if_value, joined, not_value, replaced_if}
use Rattle.wi_standard_functions.specs.Lookup.{cell_in, choose_value, index_value, look_up_value, match_value}
use Rattle.wi_standard_functions.specs.Mathematical.{abs_value, folded, mod_value, quotient_value, sign_value, sum_if_value, sum_product_value}
use Rattle.wi_standard_functions.specs.Rounding.{int_value, round_value}
use Rattle.wi_standard_functions.specs.Statistical.{average_value, extreme_value}
use Rattle.wi_standard_functions.specs.Text.{len_value, left_value, right_value, mid_value, concatenate_value, exact_value, find_value, rept_value}

-- its name in capitals, which counts of parameters it takes, and what it gives
pub record Function : Type 0 where
  pub name : Bytes
  pub takes : ℕ → Bool
  pub value : List Argument → Value

-- ---- rows of the table

module _ (name : Bytes) where
  abbrev pub with_parameters : ℕ → ℕ → (List Argument → Value) → Function
  with_parameters least greatest value = record { name = name; takes = λ n. nat_le least n && nat_le n greatest; value = value }

  abbrev pub variadic : ℕ → (List Argument → Value) → Function
  variadic least value = record { name = name; takes = nat_le least; value = value }

  abbrev pub one : (Value → Value) → Function
  one f = with_parameters 1 1 (λ args. f (value_at args 0))

  abbrev pub two : (Value → Value → Value) → Function
  two f = with_parameters 2 2 (λ args. f (value_at args 0) (value_at args 1))

  abbrev pub two_or : Value → (Value → Value → Value) → Function
  two_or default f = with_parameters 1 2 (λ args. f (value_at args 0) (value_or default args 1))

  abbrev pub test : (Value → Bool) → Function
  test holds = one (λ v. Logical (holds v))

unfoldable pub functions : List Function
functions =
    one (codes "ABS") abs_value
    ∷ variadic (codes "AND") 1 (joined (list_all (λ b. b)))
    ∷ variadic (codes "AVERAGE") 1 average_value
    ∷ variadic (codes "CHOOSE") 2 choose_value
    ∷ variadic (codes "CONCATENATE") 1 concatenate_value
    ∷ variadic (codes "COUNT") 1 (counted is_number_value)
    ∷ variadic (codes "COUNTA") 1 (counted (λ v. not (is_empty_value v)))
    ∷ with_parameters (codes "COUNTIF") 2 2 count_if_value
    ∷ two (codes "EXACT") exact_value
    ∷ with_parameters (codes "FALSE") 0 0 (λ args. Logical false)
    ∷ with_parameters (codes "FIND") 2 3 find_value
    ∷ with_parameters (codes "HLOOKUP") 3 4 (look_up_value (λ r. r.width) (λ r. r.height) (λ r column row. cell_in r row column))
    ∷ with_parameters (codes "IF") 1 3 if_value
    ∷ two (codes "IFERROR") (replaced_if is_error_value)
    ∷ two (codes "IFNA") (replaced_if is_not_available)
    ∷ with_parameters (codes "INDEX") 2 3 index_value
    ∷ one (codes "INT") int_value
    ∷ test (codes "ISBLANK") is_empty_value
    ∷ test (codes "ISERR") (λ v. is_error_value v && not (is_not_available v))
    ∷ test (codes "ISERROR") is_error_value
    ∷ test (codes "ISLOGICAL") is_logical_value
    ∷ test (codes "ISNA") is_not_available
    ∷ test (codes "ISNONTEXT") (λ v. not (is_text_value v))
    ∷ test (codes "ISNUMBER") is_number_value
    ∷ test (codes "ISTEXT") is_text_value
    ∷ two_or (codes "LEFT") (Number one_number) left_value
    ∷ one (codes "LEN") len_value
    ∷ with_parameters (codes "MATCH") 2 3 match_value
    ∷ variadic (codes "MAX") 1 (extreme_value is_gt)
    ∷ with_parameters (codes "MID") 3 3 mid_value
    ∷ variadic (codes "MIN") 1 (extreme_value is_lt)
    ∷ two (codes "MOD") mod_value
    ∷ with_parameters (codes "NA") 0 0 (λ args. Fault NotAvailable)
    ∷ one (codes "NOT") not_value
    ∷ variadic (codes "OR") 1 (joined (list_any (λ b. b)))
    ∷ two (codes "POWER") (calculated exponentiation)
    ∷ variadic (codes "PRODUCT") 1 (folded multiplication one_number)
    ∷ two (codes "QUOTIENT") quotient_value
    ∷ two (codes "REPT") rept_value
    ∷ two_or (codes "RIGHT") (Number one_number) right_value
    ∷ two_or (codes "ROUND") (Number zero_number) (round_value HalfAway)
    ∷ two_or (codes "ROUNDDOWN") (Number zero_number) (round_value Toward)
    ∷ two_or (codes "ROUNDUP") (Number zero_number) (round_value Away)
    ∷ one (codes "SIGN") sign_value
    ∷ variadic (codes "SUM") 1 (folded addition zero_number)
    ∷ with_parameters (codes "SUMIF") 2 3 sum_if_value
    ∷ variadic (codes "SUMPRODUCT") 1 sum_product_value
    ∷ with_parameters (codes "TRUE") 0 0 (λ args. Logical true)
    ∷ two_or (codes "TRUNC") (Number zero_number) (round_value Toward)
    ∷ one (codes "VALUE") value_value
    ∷ with_parameters (codes "VLOOKUP") 3 4 (look_up_value (λ r. r.height) (λ r. r.width) cell_in)
    ∷ []

-- The name is in capitals. An unknown one and a wrong count come before any argument.
unfoldable pub call_value : Bytes → List Argument → Value
call_value name args =
    option_map_or (λ (f : Function). if f.takes (length args) then f.value args else Fault BadValue)
    (find (λ (f : Function). bytes_eq f.name name) functions) (Fault UnknownName)
