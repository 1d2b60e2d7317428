-- A function is found by its name among rows in the order of `functions`.
use Rattle.wi_value_functions.proofs.Words.{◌≡◌, ℕ, Bool, true, false, ◌&&◌, List, [], ◌∷◌, length, get_or, ◌<◌, ◌≤◌, Option, if◌then◌else◌, refl, sym, ap, ◌∙◌, subst, map-map, map, find, option_map, slice_cmp, AllByRecursion, is_lt, nat_cmp, bytes_eq, and_parts, exact_bytes, Ordering, Less, Equal, Greater, BadValue, UnknownName, Fault, Argument, Value, nat_le, and-true, option_map_or, functions as all_functions, function_named, is_not_above, takes_between, call_value}
use Rattle.std.proofs.Common.{Some, None}
use Rattle.std.specs.List.Sorted.{IsStrictlySortedBy}
use Rattle.wi_standard_functions.specs.Functions as functions
use Rattle.wi_value_functions.proofs.Searching.{KeysAscend, IsWithin, named, one_named, nowhere, find-map}

-- ---- the names ascend

-- a text is below others
abbrev is_below_all : List ℕ → List (List ℕ) → Bool
is_below_all x [] = true
is_below_all x (y ∷ ys) = is_lt (slice_cmp nat_cmp x y) && is_below_all x ys

-- each text is below all that follow
abbrev ascend : List (List ℕ) → Bool
ascend [] = true
ascend (x ∷ xs) = is_below_all x xs && ascend xs

less : (o : Ordering) → is_lt o ≡ true → o ≡ Less
less Less h = refl
less Equal h = cc
less Greater h = cc

below_all : (x : List ℕ) (ys : List (List ℕ)) → is_below_all x ys ≡ true → AllByRecursion (λ y. slice_cmp nat_cmp x y ≡ Less) ys
below_all x [] h = tt
below_all x (y ∷ ys) h =
    let parts = and_parts (is_lt (slice_cmp nat_cmp x y)) (is_below_all x ys) h in
    (less _ parts.0, below_all x ys parts.1)

sorted : (xs : List (List ℕ)) → ascend xs ≡ true → IsStrictlySortedBy (slice_cmp nat_cmp) xs
unfolding IsStrictlySortedBy
sorted [] h = tt
sorted (x ∷ xs) h =
    let parts = and_parts (is_below_all x xs) (ascend xs) h in
    (below_all x xs parts.0, sorted xs parts.1)

names_ascend : IsStrictlySortedBy (slice_cmp nat_cmp) (map (λ (f : functions.Function). f.name) all_functions)
unfolding all_functions
names_ascend = sorted _ refl

-- ---- rows that are the functions

module _ {X : Type 0} (function : X → functions.Function) (rows : List X) (are : map function rows ≡ all_functions) where
  -- the rows stand in the order of their names
  pub rows_ascend : KeysAscend (λ x. (function x).name) rows
  rows_ascend = subst (IsStrictlySortedBy (slice_cmp nat_cmp)) (ap (map (λ (f : functions.Function). f.name)) (sym are) ∙ map-map (λ (f : functions.Function). f.name) function rows) names_ascend

  module _ (name : List ℕ) where
    -- the function with the name is that of the first row with it
    by_row : (o : Option X) → named (λ x. (function x).name) name rows ≡ o → function_named name ≡ option_map function o
    unfolding function_named
    by_row o found =
        ap (find (λ (f : functions.Function). bytes_eq f.name name)) (sym are)
        ∙ find-map function (λ f. bytes_eq f.name name) rows
        ∙ ap (option_map function) found

    -- where a row's name compares equal, it is that row's
    pub row_found : (i : ℕ) (d : X) → i < length rows → slice_cmp nat_cmp (function (get_or rows i d)).name name ≡ Equal → function_named name ≡ Some (function (get_or rows i d))
    row_found i d in_range equal = by_row _ (one_named (λ x. (function x).name) name rows i d rows_ascend in_range (exact_bytes _ _ equal))

    -- where a row with the name can stand nowhere, no function has it
    pub none_found : (from to : ℕ) → IsWithin (λ x. (function x).name) name rows from to → to ≤ from → function_named name ≡ None
    none_found from to within none = by_row None (nowhere (λ x. (function x).name) name rows from to within none)

-- ---- which counts a row takes

pub between : (least : ℕ) (greatest : Option ℕ) (n : ℕ) → takes_between least greatest n ≡ (nat_le least n && is_not_above n greatest)
between least None n = sym (and-true (nat_le least n))
between least (Some m) n = refl

-- ---- what a call gives, by what is found

module _ (name : List ℕ) (args : List Argument) where
  -- of the function that is found
  abbrev called : Option functions.Function → Value
  called o = option_map_or (λ (f : functions.Function). if f.takes (length args) then f.value args else Fault BadValue) o (Fault UnknownName)

  pub call_unknown : function_named name ≡ None → call_value name args ≡ Fault UnknownName
  unfolding call_value function_named
  call_unknown e = ap called e

  module _ (f : functions.Function) (found : function_named name ≡ Some f) where
    by_count : (b : Bool) → f.takes (length args) ≡ b → call_value name args ≡ (if b then f.value args else Fault BadValue)
    unfolding call_value function_named
    by_count b e = ap called found ∙ ap (λ (c : Bool). if c then f.value args else Fault BadValue) e

    pub call_taken : f.takes (length args) ≡ true → call_value name args ≡ f.value args
    call_taken e = by_count true e

    pub call_refused : f.takes (length args) ≡ false → call_value name args ≡ Fault BadValue
    call_refused e = by_count false e
