-- Parts of the definitions by names of their own.
use Rattle.std.specs.Prelude.{ℕ, ℤ, pos, ◌+◌, ◌-◌, nat_eq, nat_le, int_lt, unsigned_abs, Bool, true, false, not, ◌&&◌, ◌||◌, ◌==◌, Result, Ok, Err, List, [], ◌∷◌, length, map, filter, find, fold, zip, take, drop, slice_get, chars, Option, None, option_map, ok_or, if◌then◌else◌}
use Rattle.std.specs.List.{concat, list_all, list_any, range_with_len, starts_with}
use Rattle.std.specs.Option.{option_map_or}
use Rattle.std.specs.Ordering.{is_lt, is_gt}
use Rattle.wi_fraction.specs.Number as numbers
use Rattle.wi_fraction.specs.Order.{cross_cmp}
use Rattle.wi_values.specs.Address.{Area}
use Rattle.wi_values.specs.declared.value.ErrorKind.{ErrorKind}
use Rattle.wi_values.specs.declared.value.ErrorKind.TheVariants.{BadValue, NotAvailable}
use Rattle.wi_values.specs.declared.value.Value.{Value}
use Rattle.wi_values.specs.declared.value.Value.TheVariants.{Number, Logical, Fault}
use Rattle.wi_standard_functions.specs.Arguments.{Argument, Region, region_at, region_of, region_referred, value_at, value_or}
use Rattle.wi_standard_functions.specs.Arithmetic.{Operation, addition, calculated, exponentiation, limited_text, multiplication, whole_value}
use Rattle.wi_standard_functions.specs.Convert.{zero_number, one_number, to_text, to_whole}
use Rattle.wi_standard_functions.specs.Criterion.{meets_criterion}
use Rattle.wi_standard_functions.specs.Information.{counted, is_empty_value, is_error_value, is_not_available, is_number_value, is_text_value}
use Rattle.wi_standard_functions.specs.FirstError.{no_error}
use Rattle.wi_standard_functions.specs.Statistical.{extreme_value}
use Rattle.wi_standard_functions.specs.Lookup.{cell_in, look_up_value, nth_cell}
use Rattle.wi_standard_functions.specs.Mathematical.{folded, same_size}
use Rattle.wi_standard_functions.specs.Sequence.{Item, all_that_count, from_cell, logical_of_item, number_fold, number_of_item, scalar, sequence_of}
use Rattle.wi_standard_functions.specs.Steps.{◌>>=◌, and_then, map_until_error}
use Rattle.wi_standard_functions.specs.Text.{at_least, of_chars}

abbrev pub of_none : Value → List Argument → Value
of_none v args = v

abbrev pub zero_value : Value
zero_value = Number zero_number

abbrev pub one_value : Value
one_value = Number one_number

abbrev pub true_value : Value
true_value = Logical true

abbrev pub false_value : Value
false_value = Logical false

abbrev pub na_value : Value
na_value = Fault NotAvailable

-- POWER: as the operator
abbrev pub power_value : Value → Value → Value
power_value n m = calculated exponentiation n m

abbrev pub is_no_text : Value → Bool
is_no_text v = not (is_text_value v)

abbrev pub is_other_error : Value → Bool
is_other_error v = is_error_value v && not (is_not_available v)

-- ---- what sequences, sums and look-ups are made of

abbrev pub fold_until_error : {A X : Type 0} → (A → X → Result A ErrorKind) → A → List X → Result A ErrorKind
fold_until_error step start xs = fold (λ before x. and_then (λ a. step a x) before) (Ok start) xs

-- the cells of a reference, or another argument by itself
abbrev pub items_of_one : Value → Option Region → List Item
items_of_one v region = option_map_or (λ (r : Region). map from_cell r.values) region (scalar v ∷ [])

abbrev pub numbers_of : List Item → Result (List numbers.Number) ErrorKind
numbers_of items = all_that_count number_of_item items

-- with one more number, if there is one
abbrev pub with_number : Operation → numbers.Number → Option numbers.Number → Result numbers.Number ErrorKind
with_number calculate x found = option_map_or (calculate x) found (Ok x)

abbrev pub sum_of_items : List Item → Result numbers.Number ErrorKind
sum_of_items items = number_fold addition zero_number items

abbrev pub region_or : Result Region ErrorKind → List Argument → ℕ → Result Region ErrorKind
region_or default args i = option_map_or region_referred (slice_get args i) default

-- the second's cells where the first's meet the criterion
abbrev pub chosen_cells : Value → Region → Region → Result (List Item) ErrorKind
chosen_cells criterion r s =
    if same_size r s
    then Ok (map (λ p. from_cell p.1) (filter (λ p. meets_criterion criterion p.0) (zip r.values s.values)))
    else Err BadValue

-- SUMIF
abbrev pub sum_if_by : List Argument → Value
sum_if_by args = do
  r ← region_at args 0
  criterion ← no_error (value_at args 1)
  s ← region_or (Ok r) args 2
  cells ← chosen_cells criterion r s
  x ← number_fold addition zero_number cells
  Number x

-- CHOOSE: the k-th after the first
abbrev pub chosen : ℤ → List Argument → Result Argument ErrorKind
chosen k args = ok_or (if int_lt k (pos 1) then None else slice_get args (unsigned_abs k)) BadValue

abbrev pub choose_of : List Argument → Value
choose_of args = do k ← to_whole (value_at args 0); a ← chosen k args; a.value

-- the k-th cell of a region that is one column or one row
abbrev pub nth_cell_along : Region → ℤ → Value
nth_cell_along r k =
    if r.width == 1 then nth_cell r k (pos 1) else
    if r.height == 1 then nth_cell r (pos 1) k else
    Fault BadValue

-- INDEX of three arguments, and of two
abbrev pub index_by_both : List Argument → Value
index_by_both args = do r ← region_at args 0; j ← to_whole (value_at args 1); k ← to_whole (value_at args 2); nth_cell r j k

abbrev pub index_along : List Argument → Value
index_along args = do r ← region_at args 0; k ← to_whole (value_at args 1); nth_cell_along r k

abbrev pub v_lookup_value : List Argument → Value
v_lookup_value = look_up_value (λ r. r.height) (λ r. r.width) cell_in

abbrev pub h_lookup_value : List Argument → Value
h_lookup_value = look_up_value (λ r. r.width) (λ r. r.height) (λ r column row. cell_in r row column)

-- ---- MID, CONCATENATE and FIND of values

-- `start` counts from 1
abbrev pub mid_of : Value → Value → Value → Value
mid_of t start count = do
  s ← to_text t
  j ← to_whole start
  k ← to_whole count
  first ← at_least 1 j
  n ← at_least 0 k
  of_chars (take n (drop (first - 1) (chars s)))

abbrev pub concatenated : List Value → Value
concatenated vs = do ts ← map_until_error to_text vs; limited_text (concat ts)

-- the first position, from 0, where the characters stand in others
abbrev pub first_position : List ℕ → List ℕ → Option ℕ
first_position sought cs = find (λ i. starts_with nat_eq (drop i cs) sought) (range_with_len 0 (length cs + 1))

-- the first position, from 0, where the characters stand in others, at this one or behind it; none where this one is
-- beyond the place behind the last
abbrev pub position_from : ℕ → List ℕ → List ℕ → Option ℕ
position_from from sought cs = if nat_le from (length cs) then option_map (λ i. from + i) (first_position sought (drop from cs)) else None

-- `start` counts from 1
abbrev pub find_of : Value → Value → Value → Value
find_of t u start = do
  sought ← to_text t
  s ← to_text u
  k ← to_whole start
  from ← at_least 1 k
  i ← ok_or (position_from (from - 1) (chars sought) (chars s)) BadValue
  whole_value (i + 1)

-- ---- arguments

-- where `cells` gives the value of each cell
abbrev pub argument_of : (ℕ → Value) → Value → Option Area → Argument
argument_of cells v area = record { value = v; region = option_map (region_of cells) area }

abbrev pub smaller_number : numbers.Number → numbers.Number → numbers.Number
smaller_number x y = if is_lt (cross_cmp y x) then y else x

abbrev pub greater_number : numbers.Number → numbers.Number → numbers.Number
greater_number x y = if is_gt (cross_cmp y x) then y else x

-- of one row or one column
abbrev pub values_along : Region → Result (List Value) ErrorKind
values_along r = if (r.height == 1) || (r.width == 1) then Ok r.values else Err BadValue

abbrev pub type_for : Bool → numbers.Number
type_for in_order = if in_order then one_number else zero_number

abbrev pub of_one : (Value → Value) → List Argument → Value
of_one f args = f (value_at args 0)

abbrev pub of_two : (Value → Value → Value) → List Argument → Value
of_two f args = f (value_at args 0) (value_at args 1)

abbrev pub of_two_or : Value → (Value → Value → Value) → List Argument → Value
of_two_or default f args = f (value_at args 0) (value_or default args 1)

abbrev pub of_three : (Value → Value → Value → Value) → List Argument → Value
of_three f args = f (value_at args 0) (value_at args 1) (value_at args 2)

abbrev pub of_three_or : Value → (Value → Value → Value → Value) → List Argument → Value
of_three_or default f args = f (value_at args 0) (value_at args 1) (value_or default args 2)

abbrev pub of_values : (List Value → Value) → List Argument → Value
of_values f args = f (map (λ (a : Argument). a.value) args)

abbrev pub of_test : (Value → Bool) → List Argument → Value
of_test test args = Logical (test (value_at args 0))

abbrev pub if_error_value : Value → Value → Value
if_error_value (Fault e) w = w
if_error_value v w = v

abbrev pub if_na_value : Value → Value → Value
if_na_value (Fault NotAvailable) w = w
if_na_value v w = v

-- of none there is no result
abbrev pub tested : (List Bool → Bool) → List Bool → Value
tested test [] = Fault BadValue
tested test (b ∷ bs) = Logical (test (b ∷ bs))

abbrev pub and_value : List Argument → Value
and_value args = do bs ← all_that_count logical_of_item (sequence_of args); tested (list_all (λ b. b)) bs

abbrev pub or_value : List Argument → Value
or_value args = do bs ← all_that_count logical_of_item (sequence_of args); tested (list_any (λ b. b)) bs

abbrev pub min_value : List Argument → Value
min_value = extreme_value is_lt

abbrev pub max_value : List Argument → Value
max_value = extreme_value is_gt

abbrev pub count_value : List Argument → Value
count_value = counted is_number_value

abbrev pub count_a_value : List Argument → Value
count_a_value = counted (λ v. not (is_empty_value v))

abbrev pub sum_value : List Argument → Value
sum_value = folded addition zero_number

abbrev pub product_value : List Argument → Value
product_value = folded multiplication one_number
