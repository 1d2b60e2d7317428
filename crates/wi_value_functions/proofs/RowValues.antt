-- What the code's contracts say that a function gives is what the definitions give.
use Rattle.wi_value_functions.proofs.Words.{◌≡◌, ℕ, zero, suc, ◌+◌, ◌-◌, ◌≤◌, ◌<◌, ℤ, Bool, true, false, ◌&&◌, List, [], ◌∷◌, length, drop, find, chars, range_with_len, starts_with, nat_eq, nat_le, Option, None, Some, option_map, option_map_or, slice_get, Result, Ok, Err, refl, sym, ap, ◌∙◌, arith, if◌then◌else◌, length-drop, pos, unsigned_abs, at_least, to_text, to_whole, value_or, one_value, whole_value, Argument, Value as AnyValue, Logical, BadValue, Fault, ◌>>=◌, applied_to_arguments, given}
use Rattle.std.proofs.lemmas.Bool.{le-leb, leb-true, leb-false, lt-ltb}
use Rattle.std.proofs.lemmas.List.{drop-drop}
use Rattle.std.specs.List.{list_all, list_any}
use Rattle.std.specs.Prelude.{filter, int_lt, map, nat_lt, ok_or, zip}
use Rattle.wi_values.specs.declared.value.ErrorKind.{ErrorKind}
use Rattle.wi_values.specs.declared.value.ErrorKind.TheVariants.{NotAvailable}
use Rattle.wi_values.specs.declared.value.Value.TheVariants.{Number}
use Rattle.wi_standard_functions.specs.Arguments.{Region, region_at, value_at}
use Rattle.wi_standard_functions.specs.Arithmetic.{addition}
use Rattle.wi_standard_functions.specs.Convert.{zero_number}
use Rattle.wi_standard_functions.specs.Criterion.{meets_criterion}
use Rattle.wi_standard_functions.specs.FirstError.{no_error}
use Rattle.wi_standard_functions.specs.Information.{is_error_value, is_not_available}
use Rattle.wi_standard_functions.specs.Inner.Named.{chosen, chosen_cells, find_of, first_position, if_error_value, if_na_value, position_from, region_or, tested}
use Rattle.wi_standard_functions.specs.Logical.{replaced_if}
use Rattle.wi_standard_functions.specs.Mathematical.{of_one_size, same_size}
use Rattle.wi_standard_functions.specs.Sequence.{Item, all_that_count, from_cell, logical_of_item, number_fold, sequence_of}
use Rattle.wi_standard_functions.specs.Text.{find_value, first_from}
use Rattle.wi_value_functions.specs.declared.function.Function.{Function}
use Rattle.wi_value_functions.specs.declared.function.Function.TheVariants.{Lazy, Values, References}
use Rattle.wi_value_functions.specs.declared.function.LazyFunction.TheVariants.{Choose, IfError, IfNa}
use Rattle.wi_value_functions.specs.declared.function.FoldFunction.TheVariants.{And, Or}
use Rattle.wi_value_functions.specs.declared.function.LookupFunction.TheVariants.{SumIf}
use Rattle.wi_value_functions.specs.declared.function.ReferenceFunction.TheVariants.{Fold, Lookup}
use Rattle.wi_value_functions.specs.declared.function.TextFunction.TheVariants.{Find}
use Rattle.wi_value_functions.specs.declared.function.ValueFunction.TheVariants.{Text}

-- ---- IFERROR and IFNA

error_replaced : (v w : AnyValue) → if_error_value v w ≡ replaced_if is_error_value v w
error_replaced (Fault e) w = refl
error_replaced v w = refl

na_replaced : (v w : AnyValue) → if_na_value v w ≡ replaced_if is_not_available v w
na_replaced (Fault NotAvailable) w = refl
na_replaced v w = refl

-- ---- CHOOSE

there : (o : Option Argument) → (ok_or o BadValue >>= (λ (a : Argument). a.value)) ≡ option_map_or (λ (a : Argument). a.value) o (Fault BadValue)
there None = refl
there (Some a) = refl

at_place : (b : Bool) (i : ℕ) (args : List Argument) →
    (ok_or (if b then None else slice_get args i) BadValue >>= (λ (a : Argument). a.value)) ≡ ((if b then Err BadValue else Ok i) >>= (λ (j : ℕ). value_or (Fault BadValue) args j))
at_place true i args = refl
at_place false i args = there (slice_get args i)

by_index : (args : List Argument) (o : Result ℤ ErrorKind) →
    (o >>= (λ (k : ℤ). chosen k args >>= (λ (a : Argument). a.value))) ≡ (o >>= (λ (k : ℤ). at_least 1 k >>= (λ (i : ℕ). value_or (Fault BadValue) args i)))
by_index args (Err e) = refl
by_index args (Ok k) = at_place (int_lt k (pos 1)) (unsigned_abs k) args

-- ---- FIND

found_on : (test : ℕ → Bool) (a b m : ℕ) → option_map (λ (i : ℕ). a + i) (find (λ (i : ℕ). test (a + i)) (range_with_len b m)) ≡ find test (range_with_len (a + b) m)
found_on test a b zero = refl
found_on test a b (suc m) =
    let next : a + (b + 1) ≡ a + b + 1 = omega arith in
    at (test (a + b)) (find (λ (i : ℕ). test (a + i)) (range_with_len (b + 1) m)) (find test (range_with_len (a + b + 1) m)) (found_on test a (b + 1) m ∙ ap (λ (k : ℕ). find test (range_with_len k m)) next)
  where
    at : (t : Bool) (u w : Option ℕ) → option_map (λ (i : ℕ). a + i) u ≡ w → option_map (λ (i : ℕ). a + i) (if t then Some b else u) ≡ (if t then Some (a + b) else w)
    at true u w h = refl
    at false u w h = h

pub position_is : (from : ℕ) (sought cs : List ℕ) → position_from from sought cs ≡ first_from from sought cs
position_is from sought cs = by (nat_le from (length cs)) refl
  where
    by : (b : Bool) → nat_le from (length cs) ≡ b →
        (if b then option_map (λ (i : ℕ). from + i) (first_position sought (drop from cs)) else None) ≡ first_from from sought cs
    by true h =
        let within : from ≤ length cs = leb-true from (length cs) h in
        let size : length (drop from cs) + 1 ≡ length cs + 1 - from = omega (arith, length-drop from cs, within) in
        let begin : from + 0 ≡ from = omega arith in
        (λ k. option_map (λ (i : ℕ). from + i) (find (λ (i : ℕ). starts_with nat_eq (drop-drop i from cs k) sought) (range_with_len 0 (length (drop from cs) + 1))))
        ∙ found_on (λ (j : ℕ). starts_with nat_eq (drop j cs) sought) from 0 (length (drop from cs) + 1)
        ∙ ap (λ (n : ℕ). find (λ (j : ℕ). starts_with nat_eq (drop j cs) sought) (range_with_len (from + 0) n)) size
        ∙ ap (λ (n : ℕ). find (λ (j : ℕ). starts_with nat_eq (drop j cs) sought) (range_with_len n (length cs + 1 - from))) begin
    by false h =
        let beyond : length cs < from = leb-false from (length cs) h in
        let none : length cs + 1 - from ≡ 0 = omega (arith, beyond) in
        ap (λ (n : ℕ). find (λ (j : ℕ). starts_with nat_eq (drop j cs) sought) (range_with_len from n)) (sym none)

found : (args : List Argument) → find_of (value_at args 0) (value_at args 1) (value_or one_value args 2) ≡ find_value args
found args = λ k.
    to_text (value_at args 0) >>= (λ sought. to_text (value_at args 1) >>= (λ s. to_whole (value_or one_value args 2) >>= (λ n. at_least 1 n >>= (λ from.
    ok_or (position_is (from - 1) (chars sought) (chars s) k) BadValue >>= (λ i. whole_value (i + 1))))))

-- ---- AND and OR

tested_is : (test : List Bool → Bool) (r : Result (List Bool) ErrorKind) →
    (r >>= (λ (bs : List Bool). tested test bs)) ≡ (r >>= (λ (bs : List Bool). if nat_lt 0 (length bs) then Logical (test bs) else Fault BadValue))
tested_is test (Err e) = refl
tested_is test (Ok []) = refl
tested_is test (Ok (b ∷ bs)) =
    let some : nat_lt 0 (length (b ∷ bs)) ≡ true = lt-ltb 0 (length (b ∷ bs)) (omega arith) in
    ap (λ (t : Bool). if t then Logical (test (b ∷ bs)) else Fault BadValue) (sym some)

-- ---- SUMIF

third : (r : Region) (args : List Argument) → region_or (Ok r) args 2 ≡ (if nat_le 3 (length args) then region_at args 2 else Ok r)
third r [] = refl
third r (a ∷ []) = refl
third r (a ∷ b ∷ []) = refl
third r (a ∷ b ∷ c ∷ args) =
    let three : nat_le 3 (length (a ∷ b ∷ c ∷ args)) ≡ true = le-leb 3 (length (a ∷ b ∷ c ∷ args)) (omega arith) in
    ap (λ (t : Bool). if t then region_at (a ∷ b ∷ c ∷ args) 2 else Ok r) (sym three)

module _ (w : AnyValue) (r s : Region) where
  abbrev cells_chosen : List Item
  cells_chosen = map (λ p. from_cell p.1) (filter (λ p. meets_criterion w p.0) (zip r.values s.values))

  abbrev summed : List Item → AnyValue
  summed cells = number_fold addition zero_number cells >>= (λ x. Number x)

  of_one_size_too : (b : Bool) → ((if b then Ok cells_chosen else Err BadValue) >>= summed) ≡ ((if b && true then Ok (r ∷ s ∷ []) else Err BadValue) >>= (λ (rs : List Region). summed cells_chosen))
  of_one_size_too true = refl
  of_one_size_too false = refl

abbrev sum_from : AnyValue → Region → Result Region ErrorKind → AnyValue
sum_from w r o = o >>= (λ s. of_one_size (r ∷ s ∷ []) >>= (λ (rs : List Region). summed w r s (cells_chosen w r s)))

with_third : (w : AnyValue) (r : Region) (o : Result Region ErrorKind) → (o >>= (λ s. chosen_cells w r s >>= summed w r s)) ≡ sum_from w r o
with_third w r (Err e) = refl
with_third w r (Ok s) = of_one_size_too w r s (same_size r s)

with_criterion : (args : List Argument) (r : Region) (o : Result AnyValue ErrorKind) →
    (o >>= (λ w. region_or (Ok r) args 2 >>= (λ s. chosen_cells w r s >>= summed w r s))) ≡ (o >>= (λ w. sum_from w r (if nat_le 3 (length args) then region_at args 2 else Ok r)))
with_criterion args r (Err e) = refl
with_criterion args r (Ok w) = with_third w r (region_or (Ok r) args 2) ∙ ap (sum_from w r) (third r args)

with_first : (args : List Argument) (o : Result Region ErrorKind) →
    (o >>= (λ r. no_error (value_at args 1) >>= (λ w. region_or (Ok r) args 2 >>= (λ s. chosen_cells w r s >>= summed w r s)))) ≡ (o >>= (λ r. no_error (value_at args 1) >>= (λ w. sum_from w r (if nat_le 3 (length args) then region_at args 2 else Ok r))))
with_first args (Err e) = refl
with_first args (Ok r) = with_criterion args r (no_error (value_at args 1))

-- ---- each function

pub given_is : (f : Function) (args : List Argument) → applied_to_arguments f args ≡ given f args
given_is (Lazy IfError) args = error_replaced (value_at args 0) (value_at args 1)
given_is (Lazy IfNa) args = na_replaced (value_at args 0) (value_at args 1)
given_is (Lazy Choose) args = by_index args (to_whole (value_at args 0))
given_is (Values (Text Find)) args = found args
given_is (References (Fold And)) args = tested_is (list_all (λ b. b)) (all_that_count logical_of_item (sequence_of args))
given_is (References (Fold Or)) args = tested_is (list_any (λ b. b)) (all_that_count logical_of_item (sequence_of args))
given_is (References (Lookup SumIf)) args = with_first args (region_at args 0)
given_is f args = refl
