-- What COUNTIF counts.
use Rattle.wi_lookup_functions.proofs.Words.{◌≡◌, ℕ, ◌+◌, cond, List, [], ◌∷◌, map, Option, refl, sym, ap, ◌∙◌, subst, add_assoc, add-zero, zero-add, ◌^◌, Result, count_by, sum_by-cons, Area, cells_of, ErrorKind, Value, Argument, Region, region_at, value_at, whole_value, meets_criterion, meets_is, criterion_of, is_met_by, no_error, count_if_value, ◌>>=◌, arguments_in, KnownAgrees, region_in, after_cells, counted, IsCut, cut_counted, cut_value, Criterion, criterion_held, is_met, Counting, Stop, NoValue, Error, Stopped, criterion_argument, Gives}
use Rattle.std.specs.Prelude.{◌-◌, min, Ok, Err}
use Rattle.wi_standard_functions.specs.Inner.Criteria as defined
use Rattle.wi_arguments.specs.declared.argument.Argument as given
use Rattle.wi_lookup_functions.proofs.Referring.{IsCriterionAt, by_criterion}

-- ---- the count of a walk

abbrev pub after : Counting → ℕ → Value → Counting
after s c v = record { criterion = s.criterion; count = counted (is_met s.criterion.now v) s.count }

walked : (cells : ℕ → Value) (s : Counting) (n : ℕ) (xs : List ℕ) → IsCut s.count n → IsCut (after_cells after cells s xs).count (n + count_by (is_met s.criterion.now) (map cells xs))
walked cells s n [] h = h ∙ ap (λ (k : ℕ). min k (2 ^ 128 - 1)) (sym (add-zero n))
walked cells s n (x ∷ xs) h =
    walked cells (after s x (cells x)) (n + cond (is_met s.criterion.now (cells x)) 1 0) xs (cut_counted (is_met s.criterion.now (cells x)) s.count n h)
    ∙ ap (λ (k : ℕ). min k (2 ^ 128 - 1))
    (add_assoc n (cond (is_met s.criterion.now (cells x)) 1 0) (count_by (is_met s.criterion.now) (map cells xs))
    ∙ ap (λ (k : ℕ). n + k) (sym (sum_by-cons (λ (v : Value). cond (is_met s.criterion.now v) 1 0) (cells x) (map cells xs))))

-- a walk from no count on counts those that meet the criterion
pub all_counted : (cells : ℕ → Value) (s t : Counting) (xs : List ℕ) → t ≡ after_cells after cells s xs → s.count ≡ 0 → IsCut t.count (count_by (is_met s.criterion.now) (map cells xs))
all_counted cells s t xs e z =
    let all : IsCut (after_cells after cells s xs).count (0 + count_by (is_met s.criterion.now) (map cells xs)) = walked cells s 0 xs z in
    ap (λ (u : Counting). u.count) e ∙ all ∙ ap (λ (k : ℕ). min k (2 ^ 128 - 1)) (zero-add (count_by (is_met s.criterion.now) (map cells xs)))

-- ---- the ends of COUNTIF

-- COUNTIF by its steps
abbrev pub count_by_steps : Result Region ErrorKind → Result defined.Criterion ErrorKind → Value
count_by_steps o q = o >>= (λ r. q >>= (λ (d : defined.Criterion). whole_value (count_by (λ v. d.relation d.operand v) r.values)))

-- by the criterion in the place of its test
by_tests : (args : List Argument) (r : Region) →
    (no_error (value_at args 1) >>= (λ w. whole_value (count_by (meets_criterion w) r.values))) ≡ (no_error (value_at args 1) >>= (λ w. whole_value (count_by (is_met_by (criterion_of w)) r.values)))
by_tests args r = λ i. no_error (value_at args 1) >>= (λ w. whole_value (count_by (λ v. meets_is w v i) r.values))

by_steps : (args : List Argument) (o : Result Region ErrorKind) (q : Result defined.Criterion ErrorKind) → region_at args 0 ≡ o → criterion_argument (value_at args 1) ≡ q → count_if_value args ≡ count_by_steps o q
by_steps args o q h k = ap (λ (p : Result Region ErrorKind). p >>= (λ r. no_error (value_at args 1) >>= (λ w. whole_value (count_by (meets_criterion w) r.values)))) h ∙ at o
  where
    at : (p : Result Region ErrorKind) → (p >>= (λ r. no_error (value_at args 1) >>= (λ w. whole_value (count_by (meets_criterion w) r.values)))) ≡ count_by_steps p q
    at (Err e) = refl
    at (Ok r) = by_tests args r ∙ by_criterion (no_error (value_at args 1)) (λ (d : defined.Criterion). whole_value (count_by (λ v. d.relation d.operand v) r.values)) ∙ ap (λ (p : Result defined.Criterion ErrorKind). p >>= (λ (d : defined.Criterion). whole_value (count_by (λ v. d.relation d.operand v) r.values))) k

module _ (known : ℕ → Option Value) (args : List given.Argument) where
  -- the first argument is this rectangle, or the error
  abbrev pub IsAreaAt : Result Area ErrorKind → Type 0
  IsAreaAt r = (cells : ℕ → Value) → region_at (arguments_in cells args) 0 ≡ region_in cells r

  pub ends_at_area : (e : ErrorKind) (x : NoValue (Stop ℕ)) → x ≡ Error e → IsAreaAt (Err e) → Gives known count_if_value args (Err x)
  ends_at_area e x m h = subst (λ (y : NoValue (Stop ℕ)). Gives known count_if_value args (Err y)) (sym m) (λ cells k. sym (by_steps (arguments_in cells args) (Err e) (criterion_argument (value_at (arguments_in cells args) 1)) (h cells) refl))

  pub ends_at_criterion : (r : Area) (y x : NoValue (Stop ℕ)) → x ≡ y → IsAreaAt (Ok r) → IsCriterionAt known args 1 (Err y) → Gives known count_if_value args (Err x)
  ends_at_criterion r y x m h g = subst (λ (z : NoValue (Stop ℕ)). Gives known count_if_value args (Err z)) (sym m) (at y g)
    where
      at : (z : NoValue (Stop ℕ)) → IsCriterionAt known args 1 (Err z) → Gives known count_if_value args (Err z)
      at (Error e) k = λ cells a. sym (by_steps (arguments_in cells args) (region_in cells (Ok r)) (Err e) (h cells) (k cells a))
      at (Stopped s) k = k

  pub ends_counted : (r : Area) (c : Criterion) (n : ℕ) (v : Value) → v ≡ whole_value n → IsAreaAt (Ok r) → IsCriterionAt known args 1 (Ok c) →
      ((cells : ℕ → Value) → KnownAgrees known cells → IsCut n (count_by (is_met c) (map cells (cells_of r)))) → Gives known count_if_value args (Ok v)
  ends_counted r c n v m h g k = λ cells a. m ∙ cut_value n (count_by (is_met c) (map cells (cells_of r))) (k cells a) ∙ sym (by_steps (arguments_in cells args) (region_in cells (Ok r)) (Ok (criterion_held c)) (h cells) (g cells a))
