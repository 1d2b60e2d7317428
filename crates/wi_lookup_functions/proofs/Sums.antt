-- What SUMIF adds.
use Rattle.wi_lookup_functions.proofs.Words.{◌≡◌, ℕ, Bool, true, false, cond, ◌||◌, List, [], ◌∷◌, map, filter, fold, Option, Some, None, IfSome, refl, sym, ap, ◌∙◌, subst, Result, zip, if◌then◌else◌, list_any, or_left, or_right, Area, cells_of, is_within, ErrorKind, BadValue, Value, Empty, Number, Argument, Region, region_of, region_at, region_or, value_at, addition, zero_number, no_error, same_size, meets_is, criterion_of, is_met_by, chosen_cells, sum_of_items, sum_if_by, Item, from_cell, number_of_item, with_number, ◌>>=◌, and_then, Missing, Memory, arguments_in, refers_to, KnownAgrees, region_in, IsReferred, IsNextFilled, after_cells, IsNextAfter, known_agrees, taken_for_known, Criterion, criterion_held, is_met, empty_meets_none, Stop, NoValue, Error, Stopped, criterion_argument, Agrees, Gives, same_extent, same_place, values_where, with_cell, with_met, IsMissingInEither}
use Rattle.std.proofs.Common.{is_err, inl, inr, ⊎_elim, arith}
use Rattle.std.proofs.lemmas.Bool.{and_from, eqb-true, lt-ltb}
use Rattle.std.specs.List.{AllByRecursion}
use Rattle.std.specs.Prelude.{◌+◌, ◌-◌, ◌<◌, ◌==◌, ◌⊎◌, Ok, Err}
use Rattle.wi_values.specs.Address.{row_of, column_of, rows, columns}
use Rattle.wi_fraction.specs.Number as numbers
use Rattle.wi_standard_functions.specs.Inner.Criteria as defined
use Rattle.wi_arguments.specs.declared.argument.Argument as given
use Rattle.wi_arguments.proofs.RowMajor.{cells_inside}
use Rattle.wi_lookup_functions.proofs.Extents.{cells_moved, same_place_inside, same_place_itself, within_other}
use Rattle.wi_lookup_functions.specs.Inner.Sums.{known_there, or_error, place_there, with_known, with_met_known, with_place}
use Rattle.wi_value_functions.specs.NoValues.{IfMissing}
use Rattle.wi_lookup_functions.proofs.Referring.{IsCriterionAt, by_criterion}

-- ---- the walk adds the items

-- a sum with one more item, or the error met before
abbrev pub added : Result numbers.Number ErrorKind → Item → Result numbers.Number ErrorKind
added before item = and_then (λ x. and_then (with_number addition x) (number_of_item item)) before

as_items : (criterion : Criterion) (other : ℕ → ℕ) (cells : ℕ → Value) (t : Result numbers.Number ErrorKind) (xs : List ℕ) →
    fold added t (values_where (is_met criterion) (map cells xs) (map cells (map other xs))) ≡ after_cells (with_met criterion other cells) cells t xs
as_items criterion other cells t [] = refl
as_items criterion other cells t (x ∷ xs) = at (is_met criterion (cells x)) (λ u. as_items criterion other cells u xs)
  where
    at : (b : Bool) → ((u : Result numbers.Number ErrorKind) → fold added u (values_where (is_met criterion) (map cells xs) (map cells (map other xs))) ≡ after_cells (with_met criterion other cells) cells u xs) →
        fold added t (map (λ (p : Value × Value). from_cell p.1) (cond b ((cells x, cells (other x)) ∷ filter (λ (p : Value × Value). is_met criterion p.0) (zip (map cells xs) (map cells (map other xs)))) (filter (λ (p : Value × Value). is_met criterion p.0) (zip (map cells xs) (map cells (map other xs)))))) ≡ after_cells (with_met criterion other cells) cells (if b then with_cell t (cells (other x)) else t) xs
    at true again = again (with_cell t (cells (other x)))
    at false again = again t

-- ---- the walk

module _ (known : ℕ → Option Value) (criterion : Criterion) (r s : Area) where
  -- what a walk makes of the sum so far and one more cell, given all values
  abbrev after : (ℕ → Value) → Result numbers.Number ErrorKind → ℕ → Value → Result numbers.Number ErrorKind
  after cells = with_met criterion (same_place r s) cells

  -- the sum of the cells at the places where those of the first meet the criterion
  abbrev pub sum_where : (ℕ → Value) → Result numbers.Number ErrorKind
  sum_where cells = sum_of_items (values_where (is_met criterion) (region_of cells r).values (region_of cells s).values)

  walked_is : same_extent r s ≡ true → (cells : ℕ → Value) → sum_where cells ≡ after_cells (after cells) cells (Ok zero_number) (cells_of r)
  walked_is k cells =
      ap (λ (cs : List ℕ). sum_of_items (values_where (is_met criterion) (map cells (cells_of r)) (map cells cs))) (cells_moved r s k)
      ∙ as_items criterion (same_place r s) cells (Ok zero_number) (cells_of r)

  -- a sum so far, or why there is none, stands for this one of all values
  abbrev Follows : Result numbers.Number (NoValue (Stop ℕ)) → Result numbers.Number ErrorKind → Type 0
  Follows (Ok x) u = u ≡ Ok x
  Follows (Err (Error e)) u = u ≡ Err e
  Follows (Err (Stopped x)) u = IfMissing x (IsMissingInEither known r s)

  or_error_follows : (p : Result numbers.Number ErrorKind) → Follows (or_error p) p
  or_error_follows (Ok x) = refl
  or_error_follows (Err e) = refl

  -- what is known of a cell is its value, or it is missing
  seen : (cells : ℕ → Value) → KnownAgrees known cells → (c d : ℕ) → (known_there known c (cells c) d ≡ Some (cells d)) ⊎ ((known_there known c (cells c) d ≡ None) × (known d ≡ None))
  seen cells a c d = at (d == c) refl
    where
      other : (o : Option Value) → known d ≡ o → (known d ≡ Some (cells d)) ⊎ ((known d ≡ None) × (known d ≡ None))
      other None e = inr (e, e)
      other (Some v) e = inl (e ∙ ap (λ (w : Value). Some w) (subst (λ (o : Option Value). IfSome o (λ w. w ≡ cells d)) e (a d)))

      at : (b : Bool) → (d == c) ≡ b → ((if b then Some (cells c) else known d) ≡ Some (cells d)) ⊎ (((if b then Some (cells c) else known d) ≡ None) × (known d ≡ None))
      at true e = inl (ap (λ (k : ℕ). Some (cells k)) (sym (eqb-true d c e)))
      at false e = other (known d) refl

  with_there : (cells : ℕ → Value) → KnownAgrees known cells → (t : Result numbers.Number (NoValue (Stop ℕ))) (u : Result numbers.Number ErrorKind) → Follows t u → (c d : ℕ) → is_within s d ≡ true → Follows (with_known t d (known_there known c (cells c) d)) (with_cell u (cells d))
  with_there cells a (Ok x) u h c d w =
      ⊎_elim
      (λ e. subst (λ (o : Option Value). Follows (with_known (Ok x) d o) (with_cell u (cells d))) (sym e) (subst (λ (v : Result numbers.Number ErrorKind). Follows (or_error (with_cell (Ok x) (cells d))) (with_cell v (cells d))) (sym h) (or_error_follows (with_cell (Ok x) (cells d)))))
      (λ e. subst (λ (o : Option Value). Follows (with_known (Ok x) d o) (with_cell u (cells d))) (sym e.0) (e.1, or_right (is_within r d) (is_within s d) w))
      (seen cells a c d)
  with_there cells a (Err (Error e)) u h c d w = ap (λ (v : Result numbers.Number ErrorKind). with_cell v (cells d)) h
  with_there cells a (Err (Stopped x)) u h c d w = h

  module _ (size : same_extent r s ≡ true) (bottom : row_of s.last < rows) where
    place_is : (c : ℕ) → is_within r c ≡ true → place_there r s c ≡ Some (same_place r s c)
    place_is c w =
        let p = within_other r s c w size in
        let row : row_of s.first + (row_of c - row_of r.first) < rows = omega (arith, p.bottom, bottom) in
        let column : column_of s.first + (column_of c - column_of r.first) < columns = omega (arith, p.right, p.narrow) in
        let moved = ap (λ (b : Bool). if b then Some (same_place r s c) else None) (and_from _ _ (lt-ltb _ _ row) (lt-ltb _ _ column)) in
        at (r.first == s.first) refl moved
      where
        at : (b : Bool) → (r.first == s.first) ≡ b → {o : Option ℕ} → o ≡ Some (same_place r s c) → (if b then Some c else o) ≡ Some (same_place r s c)
        at true e m = ap (λ (d : ℕ). Some d) (sym (same_place_itself r s c w (eqb-true r.first s.first e)))
        at false e m = m

    one : (cells : ℕ → Value) → KnownAgrees known cells → (t : Result numbers.Number (NoValue (Stop ℕ))) (u : Result numbers.Number ErrorKind) (c : ℕ) → is_within r c ≡ true → Follows t u → Follows (with_met_known known criterion r s t c (cells c)) (after cells u c (cells c))
    one cells a t u c w h = at (is_met criterion (cells c))
      where
        at : (b : Bool) → Follows (if b then with_place known t c (cells c) (place_there r s c) else t) (if b then with_cell u (cells (same_place r s c)) else u)
        at true = subst (λ (o : Option ℕ). Follows (with_place known t c (cells c) o) (with_cell u (cells (same_place r s c)))) (sym (place_is c w)) (with_there cells a t u h c (same_place r s c) (same_place_inside r s c w size))
        at false = h

    through : (cells : ℕ → Value) → KnownAgrees known cells → (t : Result numbers.Number (NoValue (Stop ℕ))) (u : Result numbers.Number ErrorKind) (xs : List ℕ) → AllByRecursion (λ c. is_within r c ≡ true) xs → Follows t u → Follows (after_cells (with_met_known known criterion r s) cells t xs) (after_cells (after cells) cells u xs)
    through cells a t u [] w h = h
    through cells a t u (x ∷ xs) w h = through cells a (with_met_known known criterion r s t x (cells x)) (after cells u x (cells x)) xs w.1 (one cells a t u x w.0 h)

    -- what a walk makes is the sum, its error, or a cell that is missing
    pub sums : (sum : numbers.Number) (t : Result numbers.Number (NoValue (Stop ℕ))) → sum ≡ zero_number → ((cells : ℕ → Value) → KnownAgrees known cells → t ≡ after_cells (with_met_known known criterion r s) cells (Ok sum) (cells_of r)) → Agrees known (IsMissingInEither known r s) (λ (x : numbers.Number). x) sum_where t
    sums sum t z h = at t (λ cells a. subst (λ (v : Result numbers.Number (NoValue (Stop ℕ))). Follows v (after_cells (after cells) cells (Ok zero_number) (cells_of r))) (sym (h cells a)) (through cells a (Ok sum) (Ok zero_number) (cells_of r) (cells_inside r) (ap (λ (x : numbers.Number). Ok x) (sym z))))
      where
        at : (v : Result numbers.Number (NoValue (Stop ℕ))) → ((cells : ℕ → Value) → KnownAgrees known cells → Follows v (after_cells (after cells) cells (Ok zero_number) (cells_of r))) → Agrees known (IsMissingInEither known r s) (λ (x : numbers.Number). x) sum_where v
        at (Ok x) f = λ cells a. walked_is size cells ∙ f cells a
        at (Err (Error e)) f = λ cells a. walked_is size cells ∙ f cells a
        at (Err (Stopped x)) f = f (taken_for_known known) (known_agrees known)

  -- or a cell of the first region is missing
  pub misses : (d : ℕ) (x : NoValue (Stop ℕ)) → x ≡ Stopped (Missing d) → known d ≡ None → is_within r d ≡ true → Agrees known (IsMissingInEither known r s) (λ (z : numbers.Number). z) sum_where (Err x)
  misses d x m n w = subst (λ (y : NoValue (Stop ℕ)). Agrees known (IsMissingInEither known r s) (λ (z : numbers.Number). z) sum_where (Err y)) (sym m) (n, or_left (is_within r d) (is_within s d) w)

-- what a struct holds is made by each step alone
pub held_through : {S T : Type 0} (held : S → T) (holding : T → S) (after : S → ℕ → Value → S) (step : T → ℕ → Value → T) → ((t : T) (c : ℕ) (v : Value) → after (holding t) c v ≡ holding (step t c v)) → ((t : T) → held (holding t) ≡ t) → (cells : ℕ → Value) (t : T) (xs : List ℕ) → held (after_cells after cells (holding t) xs) ≡ after_cells step cells t xs
held_through held holding after step same back cells t [] = back t
held_through {S = S} held holding after step same back cells t (x ∷ xs) = ap (λ (u : S). held (after_cells after cells u xs)) (same t x (cells x)) ∙ held_through held holding after step same back cells (step t x (cells x)) xs

-- nothing more makes a difference where there is no sum
pub no_sum_stays : (known : ℕ → Option Value) (criterion : Criterion) (r s : Area) (t : Result numbers.Number (NoValue (Stop ℕ))) → is_err t ≡ true → (c : ℕ) (v : Value) → with_met_known known criterion r s t c v ≡ t
no_sum_stays known criterion r s (Ok x) e c v = cc
no_sum_stays known criterion r s (Err n) e c v = at (is_met criterion v) (place_there r s c)
  where
    at : (b : Bool) (o : Option ℕ) → (if b then with_place known (Err n) c v o else Err n) ≡ Err n
    at false o = refl
    at true None = refl
    at true (Some d) = refl

-- ---- the ends of SUMIF

-- the end of SUMIF, given both regions and the criterion
abbrev pub summed : defined.Criterion → Region → Region → Value
summed d r s = (if same_size r s then Ok (values_where (λ v. d.relation d.operand v) r.values s.values) else Err BadValue) >>= (λ items. sum_of_items items >>= (λ x. Number x))

-- SUMIF from its first region on
abbrev from_region : List Argument → Region → Value
from_region args r = no_error (value_at args 1) >>= (λ w. region_or (Ok r) args 2 >>= (λ s. chosen_cells w r s >>= (λ items. sum_of_items items >>= (λ x. Number x))))

-- and from its criterion on
abbrev from_criterion : List Argument → Region → defined.Criterion → Value
from_criterion args r d = region_or (Ok r) args 2 >>= (λ s. summed d r s)

-- by the criterion in the place of its test
by_tests : (args : List Argument) (r : Region) → (no_error (value_at args 1) >>= (λ w. region_or (Ok r) args 2 >>= (λ s. chosen_cells w r s >>= (λ items. sum_of_items items >>= (λ x. Number x))))) ≡ (no_error (value_at args 1) >>= (λ w. from_criterion args r (criterion_of w)))
by_tests args r = λ i. no_error (value_at args 1) >>= (λ w. region_or (Ok r) args 2 >>= (λ s. (if same_size r s then Ok (values_where (λ v. meets_is w v i) r.values s.values) else Err BadValue) >>= (λ items. sum_of_items items >>= (λ x. Number x))))

at_region : (args : List Argument) (o : Result Region ErrorKind) → region_at args 0 ≡ o → sum_if_by args ≡ (o >>= from_region args)
at_region args o h = ap (λ (p : Result Region ErrorKind). p >>= from_region args) h

at_criterion : (args : List Argument) (r : Region) (q : Result defined.Criterion ErrorKind) → region_at args 0 ≡ Ok r → criterion_argument (value_at args 1) ≡ q → sum_if_by args ≡ (q >>= from_criterion args r)
at_criterion args r q h k = at_region args (Ok r) h ∙ by_tests args r ∙ by_criterion (no_error (value_at args 1)) (from_criterion args r) ∙ ap (λ (p : Result defined.Criterion ErrorKind). p >>= from_criterion args r) k

at_added : (args : List Argument) (r : Region) (d : defined.Criterion) (p : Result Region ErrorKind) → region_at args 0 ≡ Ok r → criterion_argument (value_at args 1) ≡ Ok d → region_or (Ok r) args 2 ≡ p → sum_if_by args ≡ (p >>= (λ s. summed d r s))
at_added args r d p h k m = at_criterion args r (Ok d) h k ∙ ap (λ (o : Result Region ErrorKind). o >>= (λ s. summed d r s)) m

module _ (known : ℕ → Option Value) (args : List given.Argument) where
  -- the first argument is this rectangle, or the error
  abbrev pub IsAreaAt : Result Area ErrorKind → Type 0
  IsAreaAt r = (cells : ℕ → Value) → region_at (arguments_in cells args) 0 ≡ region_in cells r

  -- the third argument is this rectangle, or the error, where the first is that
  abbrev pub IsAdded : Area → Result Area ErrorKind → Type 0
  IsAdded r s = (cells : ℕ → Value) → region_or (region_in cells (Ok r)) (arguments_in cells args) 2 ≡ region_in cells s

  pub ends_at_area : (e : ErrorKind) (x : NoValue (Stop ℕ)) → x ≡ Error e → IsAreaAt (Err e) → Gives known sum_if_by args (Err x)
  ends_at_area e x m h = subst (λ (y : NoValue (Stop ℕ)). Gives known sum_if_by args (Err y)) (sym m) (λ cells k. sym (at_region (arguments_in cells args) (Err e) (h cells)))

  pub ends_at_criterion : (r : Area) (y x : NoValue (Stop ℕ)) → x ≡ y → IsAreaAt (Ok r) → IsCriterionAt known args 1 (Err y) → Gives known sum_if_by args (Err x)
  ends_at_criterion r y x m h g = subst (λ (z : NoValue (Stop ℕ)). Gives known sum_if_by args (Err z)) (sym m) (at y g)
    where
      at : (z : NoValue (Stop ℕ)) → IsCriterionAt known args 1 (Err z) → Gives known sum_if_by args (Err z)
      at (Error e) k = λ cells a. sym (at_criterion (arguments_in cells args) (region_of cells r) (Err e) (h cells) (k cells a))
      at (Stopped s) k = k

  module _ (r : Area) (c : Criterion) (first : IsAreaAt (Ok r)) (second : IsCriterionAt known args 1 (Ok c)) where
    pub ends_at_added : (e : ErrorKind) (x : NoValue (Stop ℕ)) → x ≡ Error e → IsAdded r (Err e) → Gives known sum_if_by args (Err x)
    ends_at_added e x m h = subst (λ (y : NoValue (Stop ℕ)). Gives known sum_if_by args (Err y)) (sym m) (λ cells k. sym (at_added (arguments_in cells args) (region_of cells r) (criterion_held c) (Err e) (first cells) (second cells k) (h cells)))

    module _ (s : Area) (third : IsAdded r (Ok s)) where
      at_size : (b : Bool) → same_extent r s ≡ b → (cells : ℕ → Value) → KnownAgrees known cells →
          sum_if_by (arguments_in cells args) ≡ ((if b then Ok (values_where (is_met c) (region_of cells r).values (region_of cells s).values) else Err BadValue) >>= (λ items. sum_of_items items >>= (λ x. Number x)))
      at_size b e cells k =
          at_added (arguments_in cells args) (region_of cells r) (criterion_held c) (Ok (region_of cells s)) (first cells) (second cells k) (third cells)
          ∙ ap (λ (d : Bool). (if d then Ok (values_where (is_met c) (region_of cells r).values (region_of cells s).values) else Err BadValue) >>= (λ items. sum_of_items items >>= (λ x. Number x))) e

      pub ends_at_size : same_extent r s ≡ false → Gives known sum_if_by args (Err (Error BadValue))
      ends_at_size e = λ cells k. sym (at_size false e cells k)

      pub ends_summed : same_extent r s ≡ true → (x : numbers.Number) → Agrees known (IsMissingInEither known r s) (λ (z : numbers.Number). z) (sum_where known c r s) (Ok x) → Gives known sum_if_by args (Ok (Number x))
      ends_summed e x g = λ cells k. sym (at_size true e cells k ∙ ap (λ (p : Result numbers.Number ErrorKind). p >>= (λ y. Number y)) (g cells k))

      pub ends_in_sum : same_extent r s ≡ true → IsReferred args r → IsReferred args s → (y x : NoValue (Stop ℕ)) → x ≡ y → Agrees known (IsMissingInEither known r s) (λ (z : numbers.Number). z) (sum_where known c r s) (Err y) → Gives known sum_if_by args (Err x)
      ends_in_sum e f g y x m h = subst (λ (z : NoValue (Stop ℕ)). Gives known sum_if_by args (Err z)) (sym m) (at y h)
        where
          in_one : (d : ℕ) (a b : Bool) → is_within r d ≡ a → is_within s d ≡ b → (a || b) ≡ true → list_any (refers_to d) args ≡ true
          in_one d true b i j k = f d i
          in_one d false b i j k = g d (j ∙ k)

          at : (z : NoValue (Stop ℕ)) → Agrees known (IsMissingInEither known r s) (λ (n : numbers.Number). n) (sum_where known c r s) (Err z) → Gives known sum_if_by args (Err z)
          at (Error n) q = λ cells k. sym (at_size true e cells k ∙ ap (λ (p : Result numbers.Number ErrorKind). p >>= (λ w. Number w)) (q cells k))
          at (Stopped (Missing d)) q = (q.0, in_one d (is_within r d) (is_within s d) refl refl q.1)
          at (Stopped Memory) q = tt
