-- Laws of cells in row-major order in a list, and others beside it.
use Rattle.wi_ranges.proofs.Words.{has_key, ◌≡◌, ◌==◌, ◌-◌, ◌||◌, ◌++◌, ◌↔◌, ℕ, nat_lt, eqb, Bool, true, false, not, cond, List, [], ◌∷◌, Some, length, slice_get, refl, sym, ap, ◌∙◌, subst, arith, nat_cmp, Less, nat_cmp_total, AllByRecursion, Contains, dedup, IsStrictlyIncreasing, IsPermutation, is_at, BTreeSet, contains, append-nil, Contains-dedup_nat, Contains-from_dedup, exact_unsigned, btree_set_contains_iff, true≢false, or_right, ltb-true, false_from_ne_true, nat_tests, list_any-append, or-false, Contains-permutation, IsPermutation-sym, sorted_head, sorted_tail, sorted_from_strictly_increasing, IsStrictlyIncreasing-from_sorted, cmp_before, below_from_Less, less_from_both, at_earlier, at_same, is_at-eq, turn_test, is_one_of, as_set, ends_before, StandApart}
use Rattle.std.specs.List.Sorted.{IsStrictlySortedBy}

-- ---- the last of a list

at_end : (y : ℕ) (ys : List ℕ) (x c : ℕ) → slice_get (y ∷ ys) (length ys) ≡ Some x → nat_lt x c ≡ ends_before (y ∷ ys) c
at_end y [] x c h = let same : y ≡ x = (let z = h in cc) in ap (λ (a : ℕ). nat_lt a c) (sym same)
at_end y (z ∷ zs) x c h = at_end z zs x c h

pub last_tells : (xs : List ℕ) (x c : ℕ) → Some x ≡ slice_get xs (length xs - 1) → nat_lt x c ≡ ends_before xs c
last_tells [] x c h = cc
last_tells (y ∷ ys) x c h =
    let count : length (y ∷ ys) - 1 ≡ length ys = omega arith in
    at_end y ys x c (sym (h ∙ ap (slice_get (y ∷ ys)) count))

-- ---- a cell behind a list

all_before : (xs : List ℕ) (x : ℕ) → IsStrictlySortedBy nat_cmp xs → ends_before xs x ≡ true → AllByRecursion (λ y. nat_cmp y x ≡ Less) xs
all_before [] x h e = tt
all_before (y ∷ []) x h e = (cmp_before y x (ltb-true y x e), tt)
all_before (y ∷ z ∷ zs) x h e =
    let rest = all_before (z ∷ zs) x (sorted_tail nat_cmp y (z ∷ zs) h) e in
    (less_from_both y z x (sorted_head nat_cmp y (z ∷ zs) h).0 rest.0, rest)

one_more : (y x : ℕ) (xs : List ℕ) → nat_cmp y x ≡ Less → AllByRecursion (λ z. nat_cmp y z ≡ Less) xs → AllByRecursion (λ z. nat_cmp y z ≡ Less) (xs ++ x ∷ [])
one_more y x [] l h = (l, tt)
one_more y x (z ∷ zs) l h = (h.0, one_more y x zs l h.1)

sorted_more : (xs : List ℕ) (x : ℕ) → IsStrictlySortedBy nat_cmp xs → AllByRecursion (λ y. nat_cmp y x ≡ Less) xs → IsStrictlySortedBy nat_cmp (xs ++ x ∷ [])
unfolding IsStrictlySortedBy
sorted_more [] x h l = (tt, tt)
sorted_more (y ∷ ys) x h l = (one_more y x ys l.0 h.0, sorted_more ys x h.1 l.1)

rise_more : (xs : List ℕ) (x : ℕ) → IsStrictlyIncreasing xs → ends_before xs x ≡ true → IsStrictlyIncreasing (xs ++ x ∷ [])
rise_more xs x order e =
    let sorted = sorted_from_strictly_increasing xs order in
    IsStrictlyIncreasing-from_sorted (xs ++ x ∷ []) (sorted_more xs x sorted (all_before xs x sorted e))

ends_with_it : (xs : List ℕ) (x c : ℕ) → ends_before (xs ++ x ∷ []) c ≡ nat_lt x c
ends_with_it [] x c = refl
ends_with_it (y ∷ []) x c = refl
ends_with_it (y ∷ z ∷ zs) x c = ends_with_it (z ∷ zs) x c

not_after : (xs : List ℕ) (x c : ℕ) → ends_before xs x ≡ true → ends_before xs c ≡ false → nat_lt x c ≡ false
not_after [] x c e f = absurd (true≢false f)
not_after (y ∷ []) x c e f = grind (arith, nat_tests)
not_after (y ∷ z ∷ zs) x c e f = not_after (z ∷ zs) x c e f

pub apart_more : (xs more : List ℕ) (os : BTreeSet ℕ) (x : ℕ) → StandApart xs os → true ≡ ends_before xs x → more ≡ xs ++ x ∷ [] → StandApart more os
apart_more xs more os x s e m =
    subst (λ (ys : List ℕ). StandApart ys os) (sym m)
    (rise_more xs x s.0 (sym e), λ c h. ends_with_it xs x c ∙ not_after xs x c (sym e) (s.1 c h))

none_before : (xs : List ℕ) (x : ℕ) → AllByRecursion (λ y. nat_cmp y x ≡ Less) xs → contains nat_cmp (as_set xs) x ≡ false
none_before [] x h = refl
none_before (y ∷ ys) x h = ap (λ b. b || contains nat_cmp (as_set ys) x) (at_earlier x y (below_from_Less y x h.0)) ∙ none_before ys x h.1

pub same_rising : (xs ys : List ℕ) (os set : BTreeSet ℕ) → ys ≡ xs → as_set (xs ++ os.keys) ≡ set → as_set (ys ++ os.keys) ≡ set
same_rising xs ys os set e h = ap (λ (ks : List ℕ). as_set (ks ++ os.keys)) e ∙ h

pub same_others : (xs : List ℕ) (os ps set : BTreeSet ℕ) → ps.keys ≡ os.keys → as_set (xs ++ os.keys) ≡ set → as_set (xs ++ ps.keys) ≡ set
same_others xs os ps set e h = ap (λ (ks : List ℕ). as_set (xs ++ ks)) e ∙ h

pub has_behind : (xs more : List ℕ) (os set : BTreeSet ℕ) (x : ℕ) → as_set (xs ++ os.keys) ≡ set → more ≡ xs ++ x ∷ []
    → (c : ℕ) → contains nat_cmp (as_set (more ++ os.keys)) c ≡ (contains nat_cmp set c || c == x)
has_behind xs more os set x is m c =
    ap (λ (ys : List ℕ). contains nat_cmp (as_set (ys ++ os.keys)) c) m ∙ list_any-append (λ y. is_at (nat_cmp c) y) (xs ++ x ∷ []) os.keys
    ∙ ap (λ b. b || contains nat_cmp os c) (list_any-append (λ y. is_at (nat_cmp c) y) xs (x ∷ []))
    ∙ ap (λ b. (contains nat_cmp (as_set xs) c || (b || false)) || contains nat_cmp os c) (is_at-eq c x)
    ∙ by (contains nat_cmp (as_set xs) c) (c == x) (contains nat_cmp os c)
    ∙ ap (λ b. b || c == x) (sym (list_any-append (λ y. is_at (nat_cmp c) y) xs os.keys) ∙ ap (λ (s : BTreeSet ℕ). contains nat_cmp s c) is)
  where
    by : (a b d : Bool) → ((a || (b || false)) || d) ≡ ((a || d) || b)
    by true b d = refl
    by false true true = refl
    by false true false = refl
    by false false true = refl
    by false false false = refl

pub new_behind : (xs : List ℕ) (os set : BTreeSet ℕ) (x : ℕ) → StandApart xs os → true ≡ ends_before xs x → set.keys ≡ xs ++ os.keys → true ≡ not (contains nat_cmp set x)
new_behind xs os set x s e is =
    sym (ap not (ap (λ (ks : List ℕ). contains nat_cmp (as_set ks) x) is ∙ list_any-append (λ y. is_at (nat_cmp x) y) xs os.keys
    ∙ ap (λ b. b || contains nat_cmp os x) (none_before xs x (all_before xs x (sorted_from_strictly_increasing xs s.0) (sym e)))
    ∙ false_from_ne_true (contains nat_cmp os x) (λ h. true≢false (e ∙ s.1 x h))))

-- ---- a cell among the others

pub apart_still : (xs : List ℕ) (os new : BTreeSet ℕ) (x : ℕ) → StandApart xs os → false ≡ ends_before xs x
    → ((c : ℕ) → contains nat_cmp new c ≡ cond (is_at (nat_cmp x) c) true (contains nat_cmp os c)) → StandApart xs new
apart_still xs os new x s e g = (s.0, λ c h. by c (is_at (nat_cmp x) c) refl (sym (g c) ∙ h))
  where
    by : (c : ℕ) (b : Bool) → is_at (nat_cmp x) c ≡ b → cond b true (contains nat_cmp os c) ≡ true → ends_before xs c ≡ false
    by c true f h = ap (λ (y : ℕ). ends_before xs y) (at_same x c f) ∙ sym e
    by c false f h = s.1 c h

pub has_more : (xs : List ℕ) (os new old : BTreeSet ℕ) (x : ℕ) → old.keys ≡ xs ++ os.keys
    → ((c : ℕ) → contains nat_cmp new c ≡ cond (is_at (nat_cmp x) c) true (contains nat_cmp os c))
    → (c : ℕ) → contains nat_cmp (as_set (xs ++ new.keys)) c ≡ (contains nat_cmp old c || c == x)
has_more xs os new old x is g c =
    list_any-append (λ y. is_at (nat_cmp c) y) xs new.keys
    ∙ ap (λ b. contains nat_cmp (as_set xs) c || b) (g c ∙ ap (λ b. cond b true (contains nat_cmp os c)) (is_at-eq x c ∙ turn_test x c))
    ∙ by (contains nat_cmp (as_set xs) c) (c == x) (contains nat_cmp os c)
    ∙ ap (λ b. b || c == x) (sym (ap (λ (ks : List ℕ). contains nat_cmp (as_set ks) c) is ∙ list_any-append (λ y. is_at (nat_cmp c) y) xs os.keys))
  where
    by : (a b d : Bool) → (a || cond b true d) ≡ ((a || d) || b)
    by true b d = refl
    by false true true = refl
    by false true false = refl
    by false false true = refl
    by false false false = refl

pub has_already : (xs : List ℕ) (os set : BTreeSet ℕ) (x : ℕ) → as_set (xs ++ os.keys) ≡ set → true ≡ is_one_of xs x → contains nat_cmp set x ≡ true
has_already xs os set x is h =
    ap (λ (s : BTreeSet ℕ). contains nat_cmp s x) (sym is) ∙ list_any-append (λ y. is_at (nat_cmp x) y) xs os.keys ∙ ap (λ b. b || contains nat_cmp os x) (has_key xs x ∙ sym h)

pub has_no_more : (set : BTreeSet ℕ) (x : ℕ) → contains nat_cmp set x ≡ true → (c : ℕ) → contains nat_cmp set c ≡ (contains nat_cmp set c || c == x)
has_no_more set x h c = by (c == x) refl
  where
    by : (b : Bool) → (c == x) ≡ b → contains nat_cmp set c ≡ (contains nat_cmp set c || b)
    by true e = let has = ap (λ (y : ℕ). contains nat_cmp set y) (at_same x c (is_at-eq x c ∙ turn_test x c ∙ e)) ∙ h in has ∙ sym (or_right (contains nat_cmp set c) true refl)
    by false e = sym (or-false (contains nat_cmp set c))

pub new_among_others : (xs : List ℕ) (os set : BTreeSet ℕ) (x : ℕ) → as_set (xs ++ os.keys) ≡ set → false ≡ is_one_of xs x → contains nat_cmp os x ≡ contains nat_cmp set x
new_among_others xs os set x is h =
    ap (λ b. b || contains nat_cmp os x) (h ∙ sym (has_key xs x)) ∙ sym (list_any-append (λ y. is_at (nat_cmp x) y) xs os.keys) ∙ ap (λ (s : BTreeSet ℕ). contains nat_cmp s x) is

-- ---- all cells in one list

pub sorted_once : (cells more sorted list : List ℕ) → more ≡ cells → IsPermutation more sorted → list ≡ dedup eqb sorted → (c : ℕ) → Contains list c ↔ Contains cells c
sorted_once cells more sorted list e p d c = (
  λ h. subst (λ (xs : List ℕ). Contains xs c) e (Contains-permutation sorted more c (IsPermutation-sym more sorted p) (Contains-from_dedup eqb sorted c (subst (λ (xs : List ℕ). Contains xs c) d h))),
  λ h. subst (λ (xs : List ℕ). Contains xs c) (sym d) (Contains-dedup_nat sorted c (Contains-permutation more sorted c p (subst (λ (xs : List ℕ). Contains xs c) (sym e) h))),
)

pub cells_of : (set : BTreeSet ℕ) (cells : List ℕ) → set.keys ≡ cells → (c : ℕ) → Contains cells c ↔ (contains nat_cmp set c ≡ true)
cells_of set cells e c =
    let tells = btree_set_contains_iff nat_cmp_total exact_unsigned set c in
    (λ h. tells.1 (subst (λ (xs : List ℕ). Contains xs c) (sym e) h), λ h. subst (λ (xs : List ℕ). Contains xs c) e (tells.0 h))

pub cells_alone : (set : BTreeSet ℕ) (cells os : List ℕ) → set.keys ≡ cells ++ os → length os ≡ 0 → (c : ℕ) → Contains cells c ↔ (contains nat_cmp set c ≡ true)
cells_alone set cells [] e l = cells_of set cells (e ∙ append-nil cells)
cells_alone set cells (o ∷ os) e l = absurd (omega (arith, l))

pub cells_through : (set : BTreeSet ℕ) (cells list : List ℕ) → set.keys ≡ cells → ((c : ℕ) → Contains list c ↔ Contains cells c) → (c : ℕ) → Contains list c ↔ (contains nat_cmp set c ≡ true)
cells_through set cells list e h c = let tells = cells_of set cells e c in (λ m. tells.0 ((h c).0 m), λ m. (h c).1 (tells.1 m))
