-- A walk over the cells of a rectangle passes over those that are known to be Empty.
use Rattle.std.proofs.Common.{◌≡◌, ℕ, ◌<◌, ◌≤◌, ◌-◌, ◌+◌, ◌⊎◌, inl, inr, Bool, true, false, cond, List, [], ◌∷◌, filter, Option, Some, None, IfSome, IfNone, refl, sym, ap, ◌∙◌, subst, arith}
use Rattle.std.specs.Prelude.{nat_le, nat_lt, option_map}
use Rattle.std.specs.List.{AllByRecursion}
use Rattle.std.proofs.lemmas.Bool.{le-leb, leb-false, leb-true, lt-leb, ltb-true}
use Rattle.std.proofs.lemmas.Bool.Decides.{nat_tests}
use Rattle.std.proofs.lemmas.List.Elements.{filter_agree}
use Rattle.wi_values.specs.Address.{Area, is_within, cells_of}
use Rattle.wi_values.specs.declared.value.Value.{Value}
use Rattle.wi_values.specs.declared.value.Value.TheVariants.{Empty}
use Rattle.wi_arguments.specs.declared.lookup.LookedUp.{LookedUp}
use Rattle.wi_arguments.specs.Arguments.{KnownAgrees}
use Rattle.wi_arguments.specs.Assignment.{value_if_known}
use Rattle.wi_arguments.specs.Filled.{IsNextFilled, ComesBefore, is_known_empty}
use Rattle.wi_arguments.specs.Walk.{after_cells, to_come, HasTaken, IsNextAfter}
use Rattle.wi_values.proofs.Within.{within_between}
use Rattle.wi_values.proofs.Lists.{filter_all}
use Rattle.wi_arguments.proofs.Given.{known_is}
use Rattle.wi_arguments.proofs.RowMajor.{cells_inside, from_cell_on}

-- ---- what is still to come

-- how far a walk over a rectangle has to go, which may begin beyond it
abbrev pub steps_left : Area → Option ℕ → ℕ
steps_left r None = 0
steps_left r (Some a) = ((r.last + 1) - a) + 1

-- the cell that was found, without what is known of it
abbrev pub cell_of : Option (ℕ × LookedUp) → Option ℕ
cell_of o = option_map (λ x. x.0) o

abbrev pub IsLookedUp : (ℕ → Option Value) → Option (ℕ × LookedUp) → Type 0
IsLookedUp known o = IfSome o (λ x. value_if_known x.1 ≡ known x.0)

value_ahead : (known : ℕ → Option Value) (ahead : Option (ℕ × LookedUp)) (c : ℕ) (l : LookedUp) (v : Value) → IsLookedUp known ahead → ahead ≡ Some (c, l) → value_if_known l ≡ Some v → Some v ≡ known c
value_ahead known ahead c l v h a e = sym e ∙ subst (IsLookedUp known) a h

none_pass : (p : ℕ → Bool) (xs : List ℕ) → AllByRecursion (λ a. p a ≡ false) xs → filter p xs ≡ []
none_pass p [] h = refl
none_pass p (x ∷ xs) h = ap (λ (b : Bool). cond b (x ∷ filter p xs) (filter p xs)) h.0 ∙ none_pass p xs h.1

each_pass : (p : ℕ → Bool) (xs : List ℕ) → AllByRecursion (λ a. p a ≡ true) xs → filter p xs ≡ xs
each_pass p [] h = refl
each_pass p (x ∷ xs) h = ap (λ (b : Bool). cond b (x ∷ filter p xs) (filter p xs)) h.0 ∙ ap (λ (ys : List ℕ). x ∷ ys) (each_pass p xs h.1)

each : (P Q : ℕ → Type 0) → ((a : ℕ) → P a → Q a) → (xs : List ℕ) → AllByRecursion P xs → AllByRecursion Q xs
each P Q f [] h = tt
each P Q f (x ∷ xs) h = (f x h.0, each P Q f xs h.1)

-- from the first cell on all are to come
all_to_come : (r : Area) (from : ℕ) → from ≡ r.first → to_come r (Some from) ≡ cells_of r
all_to_come r from e = each_pass (λ a. nat_le from a) (cells_of r) (each (λ a. is_within r a ≡ true) (λ a. nat_le from a ≡ true) (λ a w. let l = (within_between r a w).0 in le-leb from a (omega (arith, e, l))) (cells_of r) (cells_inside r))

-- and from the next cell on those after one
pub successor_to_come : (r : Area) (c last : ℕ) (next : Option ℕ) → last ≡ r.last → IfSome next (λ d. (d ≡ c + 1) × (d ≤ last)) → IfNone next (last ≤ c) → to_come r next ≡ to_come r (Some (c + 1))
successor_to_come r c last None e some none =
    sym (none_pass (λ a. nat_le (c + 1) a) (cells_of r) (each (λ a. is_within r a ≡ true) (λ a. nat_le (c + 1) a ≡ false) (λ a w. let l = (within_between r a w).1 in lt-leb (c + 1) a (omega (arith, e, none, l))) (cells_of r) (cells_inside r)))
successor_to_come r c last (Some d) e some none = ap (λ (n : ℕ). to_come r (Some n)) some.0

pub first_of : (P Q : ℕ → Type 0) (o : Option ℕ) → IfSome o (λ c. P c × Q c) → IfSome o P
first_of P Q None h = tt
first_of P Q (Some c) h = h.0

module _ {S : Type 0} (after : S → ℕ → Value → S) where
  -- to which an Empty cell makes no difference
  abbrev pub PassesEmpty : Type 0
  PassesEmpty = (s : S) (c : ℕ) → after s c Empty ≡ s

  -- both tests say the same of a cell, or the second passes over it and it is Empty
  abbrev IsSkipped : (ℕ → Value) → (ℕ → Bool) → (ℕ → Bool) → ℕ → Type 0
  IsSkipped cells p q a = (p a ≡ q a) ⊎ ((q a ≡ false) × (cells a ≡ Empty))

  -- how a walk over the rest goes on, once for each state
  abbrev GoesOn : (ℕ → Value) → (ℕ → Bool) → (ℕ → Bool) → List ℕ → Type 0
  GoesOn cells p q xs = (t : S) → after_cells after cells t (filter p xs) ≡ after_cells after cells t (filter q xs)

  skip_one : (passes_empty : PassesEmpty) (cells : ℕ → Value) (p q : ℕ → Bool) (s : S) (x : ℕ) (xs : List ℕ) → IsSkipped cells p q x → GoesOn cells p q xs → after_cells after cells s (cond (p x) (x ∷ filter p xs) (filter p xs)) ≡ after_cells after cells s (cond (q x) (x ∷ filter q xs) (filter q xs))
  skip_one passes_empty cells p q s x xs h k = by_case h
    where
      same : (b : Bool) → after_cells after cells s (cond b (x ∷ filter p xs) (filter p xs)) ≡ after_cells after cells s (cond b (x ∷ filter q xs) (filter q xs))
      same true = k (after s x (cells x))
      same false = k s

      passed : (b : Bool) → cells x ≡ Empty → after_cells after cells s (cond b (x ∷ filter p xs) (filter p xs)) ≡ after_cells after cells s (filter q xs)
      passed true e = ap (λ (v : Value). after_cells after cells (after s x v) (filter p xs)) e ∙ ap (λ (t : S). after_cells after cells t (filter p xs)) (passes_empty s x) ∙ k s
      passed false e = k s

      by_case : IsSkipped cells p q x → after_cells after cells s (cond (p x) (x ∷ filter p xs) (filter p xs)) ≡ after_cells after cells s (cond (q x) (x ∷ filter q xs) (filter q xs))
      by_case (inl e) = rw e (same (q x))
      by_case (inr e) = rw e.0 (passed (p x) e.1)

  skip : (passes_empty : PassesEmpty) (cells : ℕ → Value) (p q : ℕ → Bool) (s : S) (xs : List ℕ) → AllByRecursion (IsSkipped cells p q) xs → after_cells after cells s (filter p xs) ≡ after_cells after cells s (filter q xs)
  skip passes_empty cells p q s [] h = refl
  skip passes_empty cells p q s (x ∷ xs) h = skip_one passes_empty cells p q s x xs h.0 (λ t. skip passes_empty cells p q t xs h.1)

  empty_there : (o : Option Value) (w : Value) → is_known_empty o ≡ true → IfSome o (λ v. v ≡ w) → w ≡ Empty
  empty_there None w e h = cc
  empty_there (Some Empty) w e h = sym h
  empty_there (Some v) w e h = cc

  none_passes : (cells : ℕ → Value) (s : S) (xs : List ℕ) → after_cells after cells s (filter (λ a. false) xs) ≡ s
  none_passes cells s [] = refl
  none_passes cells s (x ∷ xs) = none_passes cells s xs

  -- cells that are passed over change nothing
  found_next : (passes_empty : PassesEmpty) (known : ℕ → Option Value) (cells : ℕ → Value) (r : Area) (p : ℕ → Bool) (found : Option ℕ) (s : S) → KnownAgrees known cells →
      IfSome found (λ d. (a : ℕ) → d ≤ a → p a ≡ true) → ((a : ℕ) → is_within r a ≡ true → p a ≡ true → ComesBefore a found → is_known_empty (known a) ≡ true) →
      after_cells after cells s (filter p (cells_of r)) ≡ after_cells after cells s (to_come r found)
  found_next passes_empty known cells r p None s agrees m h =
      skip passes_empty cells p (λ a. false) s (cells_of r) (each (λ a. is_within r a ≡ true) (IsSkipped cells p (λ a. false)) (λ a w. at a w (p a) refl) (cells_of r) (cells_inside r)) ∙ none_passes cells s (cells_of r)
    where
      at : (a : ℕ) → is_within r a ≡ true → (b : Bool) → p a ≡ b → (b ≡ false) ⊎ ((false ≡ false) × (cells a ≡ Empty))
      at a w true e = inr (refl, empty_there (known a) (cells a) (h a w e tt) (agrees a))
      at a w false e = inl refl
  found_next passes_empty known cells r p (Some d) s agrees m h =
      skip passes_empty cells p (λ a. nat_le d a) s (cells_of r) (each (λ a. is_within r a ≡ true) (IsSkipped cells p (λ a. nat_le d a)) (λ a w. at a w (p a) (nat_le d a) refl refl) (cells_of r) (cells_inside r))
    where
      at : (a : ℕ) → is_within r a ≡ true → (b k : Bool) → p a ≡ b → nat_le d a ≡ k → (b ≡ k) ⊎ ((k ≡ false) × (cells a ≡ Empty))
      at a w true true e f = inl refl
      at a w true false e f = inr (refl, empty_there (known a) (cells a) (h a w e (leb-false d a f)) (agrees a))
      at a w false true e f = let t : p a ≡ true = m a (leb-true d a f) in cc
      at a w false false e f = inl refl

  -- ---- for a walk in parts

  -- whatever is known to be Empty is passed over
  pub reaches : (passes_empty : PassesEmpty) (known : ℕ → Option Value) (r : Area) (s : S) (from : ℕ) (next : Option ℕ) → IfSome next (λ d. from ≤ d) → ((a : ℕ) → is_within r a ≡ true → from ≤ a → ComesBefore a next → is_known_empty (known a) ≡ true) →
      HasTaken after known r s (Some from) s next
  reaches passes_empty known r s from next l h =
      λ cells agrees. sym (found_next passes_empty known cells r (λ a. nat_le from a) next s agrees (on_from next l) (λ a w p. h a w (leb-true from a p)))
    where
      on_from : (o : Option ℕ) → IfSome o (λ d. from ≤ d) → IfSome o (λ d. (a : ℕ) → d ≤ a → nat_le from a ≡ true)
      on_from None m = tt
      on_from (Some d) m = λ a n. grind (arith, nat_tests, m, n)

  -- the next cell is taken
  pub moves_on : (passes_empty : PassesEmpty) (known : ℕ → Option Value) (r : Area) (s t : S) (from c : ℕ) (v : Value) → is_within r c ≡ true → from ≤ c → ((a : ℕ) → is_within r a ≡ true → from ≤ a → a < c → is_known_empty (known a) ≡ true) →
      Some v ≡ known c → t ≡ after s c v → HasTaken after known r s (Some from) t (Some (c + 1))
  moves_on passes_empty known r s t from c v w l h k e =
      λ cells agrees.
      ap (λ (xs : List ℕ). after_cells after cells t xs) (filter_agree (λ a. nat_le (c + 1) a) (λ a. nat_lt c a) (next_cell c) (cells_of r))
      ∙ ap (λ (u : S). after_cells after cells u (filter (λ a. nat_lt c a) (cells_of r))) (e ∙ ap (after s c) (known_is (known c) v (cells c) (agrees c) k))
      ∙ ap (λ (xs : List ℕ). after_cells after cells s xs) (sym (from_cell_on r c w))
      ∙ reaches passes_empty known r s from (Some c) l h cells agrees
    where
      next_cell : (c a : ℕ) → nat_le (c + 1) a ≡ nat_lt c a
      next_cell c a = grind (arith, nat_tests)

  unmoved : (t : S) → ((c : ℕ) (v : Value) → after t c v ≡ t) → (cells : ℕ → Value) (xs : List ℕ) → after_cells after cells t xs ≡ t
  unmoved t h cells [] = refl
  unmoved t h cells (x ∷ xs) = ap (λ (u : S). after_cells after cells u xs) (h x (cells x)) ∙ unmoved t h cells xs

  -- where no other cell makes a difference, it doesn't matter where the walk goes on
  pub enough : (known : ℕ → Option Value) (r : Area) (s t : S) (from : ℕ) (next other : Option ℕ) → ((c : ℕ) (v : Value) → after t c v ≡ t) → HasTaken after known r s (Some from) t next → HasTaken after known r s (Some from) t other
  enough known r s t from next other stays h = λ cells agrees. unmoved t stays cells (to_come r other) ∙ sym (unmoved t stays cells (to_come r next)) ∙ h cells agrees

  -- one part after another
  pub joined : (known : ℕ → Option Value) (r : Area) (s t u : S) (from mid next : Option ℕ) → HasTaken after known r s from t mid → HasTaken after known r t mid u next → HasTaken after known r s from u next
  joined known r s t u from mid next h k = λ cells agrees. k cells agrees ∙ h cells agrees

  -- and a walk through all
  pub whole : (known : ℕ → Option Value) (r : Area) (s t : S) (from : ℕ) (next : Option ℕ) → from ≡ r.first → next ≡ None → HasTaken after known r s (Some from) t next → (cells : ℕ → Value) → KnownAgrees known cells → t ≡ after_cells after cells s (cells_of r)
  whole known r s t from next f e h cells agrees =
      ap (λ (o : Option ℕ). after_cells after cells t (to_come r o)) (sym e) ∙ h cells agrees ∙ ap (λ (xs : List ℕ). after_cells after cells s xs) (all_to_come r from f)

  -- ---- with what was found

  moves_after : (passes_empty : PassesEmpty) (known : ℕ → Option Value) (r : Area) (s t : S) (from c : ℕ) (l : LookedUp) (v : Value) (found : Option (ℕ × LookedUp)) → IsNextFilled known r from (cell_of found) → IsLookedUp known found → found ≡ Some (c, l) →
      value_if_known l ≡ Some v → t ≡ after s c v → HasTaken after known r s (Some from) t (Some (c + 1))
  moves_after passes_empty known r s t from c l v found n k a e f =
      let here : IsNextFilled known r from (Some c) = subst (λ (o : Option (ℕ × LookedUp)). IsNextFilled known r from (cell_of o)) a n in
      moves_on passes_empty known r s t from c v here.inside.0 here.inside.1 here.empty_before (value_ahead known found c l v k a e) f

  -- one is taken, and the walk goes on after it
  pub takes_one : (passes_empty : PassesEmpty) (known : ℕ → Option Value) (r : Area) (s t : S) (from c last : ℕ) (l : LookedUp) (v : Value) (found : Option (ℕ × LookedUp)) (next : Option ℕ) → IsNextFilled known r from (cell_of found) → IsLookedUp known found →
      found ≡ Some (c, l) → value_if_known l ≡ Some v → t ≡ after s c v → last ≡ r.last → IfSome next (λ d. (d ≡ c + 1) × (d ≤ last)) → IfNone next (last ≤ c) → HasTaken after known r s (Some from) t next
  takes_one passes_empty known r s t from c last l v found next n k a e f g some none =
      λ cells agrees. ap (λ (xs : List ℕ). after_cells after cells t xs) (successor_to_come r c last next g some none) ∙ moves_after passes_empty known r s t from c l v found n k a e f cells agrees

  -- or stops with it
  pub takes_last : (passes_empty : PassesEmpty) (known : ℕ → Option Value) (r : Area) (s t : S) (from c : ℕ) (l : LookedUp) (v : Value) (found : Option (ℕ × LookedUp)) → IsNextFilled known r from (cell_of found) → IsLookedUp known found → found ≡ Some (c, l) →
      value_if_known l ≡ Some v → t ≡ after s c v → ((d : ℕ) (w : Value) → after t d w ≡ t) → HasTaken after known r s (Some from) t None
  takes_last passes_empty known r s t from c l v found n k a e f stays = enough known r s t from (Some (c + 1)) None stays (moves_after passes_empty known r s t from c l v found n k a e f)

  -- or there is none
  pub takes_none : (passes_empty : PassesEmpty) (known : ℕ → Option Value) (r : Area) (s : S) (from : ℕ) (found : Option (ℕ × LookedUp)) → IsNextFilled known r from (cell_of found) → found ≡ None → HasTaken after known r s (Some from) s None
  takes_none passes_empty known r s from found n a =
      let here : IsNextFilled known r from None = subst (λ (o : Option (ℕ × LookedUp)). IsNextFilled known r from (cell_of o)) a n in
      reaches passes_empty known r s from None tt here.empty_before

  -- ---- for a walk from one cell to the next

  -- what is to come makes what is left of the walk the whole
  abbrev pub Rest : (ℕ → Option Value) → Area → S → S → Option ℕ → Type 0
  Rest known r whole s ahead = IfSome ahead (λ c. is_within r c ≡ true) × ((cells : ℕ → Value) → KnownAgrees known cells → after_cells after cells s (to_come r ahead) ≡ after_cells after cells whole (cells_of r))

  any_is_reached : (o : Option ℕ) → IfSome o (λ d. (a : ℕ) → d ≤ a → true ≡ true)
  any_is_reached None = tt
  any_is_reached (Some d) = λ a l. refl

  -- the walk begins with the first cell that is filled
  pub begins : (passes_empty : PassesEmpty) (known : ℕ → Option Value) (r : Area) (s : S) (from : ℕ) (found : Option ℕ) → from ≡ r.first → IsNextFilled known r from found → Rest known r s s found
  begins passes_empty known r s from found e h = (
    first_of (λ c. is_within r c ≡ true) (λ c. from ≤ c) found h.inside,
    λ cells agrees.
        sym (found_next passes_empty known cells r (λ a. true) found s agrees (any_is_reached found) (λ a w t b. h.empty_before a w (omega (arith, e, (within_between r a w).0)) b))
        ∙ ap (λ (xs : List ℕ). after_cells after cells s xs) (filter_all (cells_of r)),
  )

  -- a cell is taken
  taken : (known : ℕ → Option Value) (r : Area) (whole s t : S) (c : ℕ) (v : Value) → Rest known r whole s (Some c) → Some v ≡ known c → t ≡ after s c v →
      (cells : ℕ → Value) → KnownAgrees known cells → after_cells after cells t (filter (λ a. nat_lt c a) (cells_of r)) ≡ after_cells after cells whole (cells_of r)
  taken known r whole s t c v h k e cells agrees =
      ap (λ (u : S). after_cells after cells u (filter (λ a. nat_lt c a) (cells_of r))) (e ∙ ap (after s c) (known_is (known c) v (cells c) (agrees c) k))
      ∙ ap (λ (xs : List ℕ). after_cells after cells s xs) (sym (from_cell_on r c h.0))
      ∙ h.1 cells agrees

  past_is_reached : (c : ℕ) (P : ℕ → Type 0) (o : Option ℕ) → IfSome o (λ d. P d × (c < d)) → IfSome o (λ d. (a : ℕ) → d ≤ a → nat_lt c a ≡ true)
  past_is_reached c P None h = tt
  past_is_reached c P (Some d) h = λ a l. grind (arith, nat_tests, l, h.1)

  -- and the walk goes on after it
  pub goes_on : (passes_empty : PassesEmpty) (known : ℕ → Option Value) (r : Area) (whole s t : S) (ahead : Option ℕ) (c : ℕ) (v : Value) (found : Option ℕ) → Rest known r whole s ahead → ahead ≡ Some c → Some v ≡ known c → t ≡ after s c v → IsNextAfter known r c found → Rest known r whole t found
  goes_on passes_empty known r whole s t ahead c v found h a k e n = (
    first_of (λ d. is_within r d ≡ true) (λ d. c < d) found n.inside,
    λ cells agrees.
        sym (found_next passes_empty known cells r (λ b. nat_lt c b) found t agrees (past_is_reached c (λ d. is_within r d ≡ true) found n.inside) (λ b w l m. n.empty_between b w (ltb-true c b l) m))
        ∙ taken known r whole s t c v (subst (Rest known r whole s) a h) k e cells agrees,
  )

  -- or stops, where no other cell makes a difference
  pub stops : (known : ℕ → Option Value) (r : Area) (whole s t : S) (ahead : Option ℕ) (c : ℕ) (v : Value) → Rest known r whole s ahead → ahead ≡ Some c → Some v ≡ known c → t ≡ after s c v → ((d : ℕ) (w : Value) → after t d w ≡ t) →
      (cells : ℕ → Value) → KnownAgrees known cells → t ≡ after_cells after cells whole (cells_of r)
  stops known r whole s t ahead c v h a k e stays cells agrees =
      sym (unmoved t stays cells (filter (λ b. nat_lt c b) (cells_of r))) ∙ taken known r whole s t c v (subst (Rest known r whole s) a h) k e cells agrees

  -- or ends, where no other cell is filled
  pub ends : (known : ℕ → Option Value) (r : Area) (whole s : S) (ahead : Option ℕ) → Rest known r whole s ahead → ahead ≡ None → (cells : ℕ → Value) → KnownAgrees known cells → s ≡ after_cells after cells whole (cells_of r)
  ends known r whole s ahead h a cells agrees = (subst (Rest known r whole s) a h).1 cells agrees
