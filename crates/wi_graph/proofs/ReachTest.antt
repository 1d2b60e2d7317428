-- To reach is decided by a test.
use Rattle.wi_graph.proofs.Words.{◌≡◌, ◌==◌, ℕ, zero, suc, ◌<◌, ◌≤◌, Bool, true, false, ◌&&◌, ◌||◌, List, [], ◌∷◌, filter, length, refl, subst, arith, inl, inr, ◌⊎◌, eq-eqb, and_parts, and_from, or_cases, or_left, or_right, cases_lt, cases_Bool, list_any, Sheet, content_of, has_formula, cells_with_formula, content_reads, keeps_few, Walks, Reaches, is_one_of, IsInCone, reaches_by, reaches, in_cone}
use Rattle.wi_graph.proofs.Walks.{same_cell, found, formula_cell, reader_formula, shrinks, Same}

-- the element that passes is one of the list
pub finds_in : (p : ℕ → Bool) (xs : List ℕ) → list_any p xs ≡ true → (a : ℕ) × (is_one_of xs a ≡ true) × (p a ≡ true)
finds_in p [] h = cc
finds_in p (x ∷ xs) h = at (p x) refl h (finds_in p xs)
  where
    at : (b : Bool) → p x ≡ b → (b || list_any p xs) ≡ true → (list_any p xs ≡ true → (a : ℕ) × (is_one_of xs a ≡ true) × (p a ≡ true)) → (a : ℕ) × (is_one_of (x ∷ xs) a ≡ true) × (p a ≡ true)
    at true e h ih = (x, or_left (x == x) _ (eq-eqb x x refl), e)
    at false e h ih = let i = ih h in (i.0, or_right (x == i.0) _ i.1, i.2)

at_once : (n : ℕ) (s : Sheet) (c a : ℕ) → (c == a || content_reads (content_of s c) a) ≡ true → reaches_by n s c a ≡ true
at_once zero s c a h = h
at_once (suc n) s c a h = or_left (c == a || content_reads (content_of s c) a) _ h

by_step : (n : ℕ) (s : Sheet) (c a d : ℕ) → has_formula (content_of s d) ≡ true → content_reads (content_of s c) d ≡ true → reaches_by n s d a ≡ true → reaches_by (suc n) s c a ≡ true
by_step n s c a d f r h =
    or_right (c == a || content_reads (content_of s c) a) _ (found (λ e. content_reads (content_of s c) e && reaches_by n s e a) (cells_with_formula s) d (formula_cell s d f) (and_from _ _ r h))

-- by a cell with a formula
abbrev Next : ℕ → Sheet → ℕ → ℕ → Type 0
Next n s c a = (d : ℕ) × (is_one_of (cells_with_formula s) d ≡ true) × (content_reads (content_of s c) d ≡ true) × (reaches_by n s d a ≡ true)

-- at once, or so
next : (n : ℕ) (s : Sheet) (c a : ℕ) → reaches_by (suc n) s c a ≡ true → ((c == a || content_reads (content_of s c) a) ≡ true) ⊎ Next n s c a
next n s c a h = at (or_cases (c == a || content_reads (content_of s c) a) _ h)
  where
    at : ((c == a || content_reads (content_of s c) a) ≡ true) ⊎ (list_any (λ d. content_reads (content_of s c) d && reaches_by n s d a) (cells_with_formula s) ≡ true) → ((c == a || content_reads (content_of s c) a) ≡ true) ⊎ Next n s c a
    at (inl k) = inl k
    at (inr k) =
        let f = finds_in (λ d. content_reads (content_of s c) d && reaches_by n s d a) (cells_with_formula s) k in
        let x = and_parts (content_reads (content_of s c) f.0) (reaches_by n s f.0 a) f.2 in
        inr (f.0, f.1, x.0, x.1)

-- by the same cell, in as many steps as it takes from there
again : (n : ℕ) (s : Sheet) (c a : ℕ) (x : Next n s c a) → (m : ℕ) → reaches_by m s x.0 a ≡ true → reaches_by (suc m) s c a ≡ true
again n s c a x m h =
    or_right (c == a || content_reads (content_of s c) a) _ (found (λ e. content_reads (content_of s c) e && reaches_by m s e a) (cells_with_formula s) x.0 x.1 (and_from _ _ x.2 h))

by_one_more : (n : ℕ) (s : Sheet) (c a : ℕ) → reaches_by n s c a ≡ true → reaches_by (suc n) s c a ≡ true
by_one_more zero s c a h = at_once 1 s c a h
by_one_more (suc n) s c a h = at (next n s c a h) (λ d. by_one_more n s d a)
  where
    at : ((c == a || content_reads (content_of s c) a) ≡ true) ⊎ Next n s c a → ((d : ℕ) → reaches_by n s d a ≡ true → reaches_by (suc n) s d a ≡ true) → reaches_by (suc (suc n)) s c a ≡ true
    at (inl k) ih = at_once (suc (suc n)) s c a k
    at (inr x) ih = again n s c a x (suc n) (ih x.0 x.3)

-- by one step more no further cell reaches a
abbrev Stands : ℕ → Sheet → ℕ → Type 0
Stands n s a = (c : ℕ) → reaches_by (suc n) s c a ≡ true → reaches_by n s c a ≡ true

stands_on : (n : ℕ) (s : Sheet) (a : ℕ) → Stands n s a → Stands (suc n) s a
stands_on n s a k c h = at (next (suc n) s c a h)
  where
    at : ((c == a || content_reads (content_of s c) a) ≡ true) ⊎ Next (suc n) s c a → reaches_by (suc n) s c a ≡ true
    at (inl l) = at_once (suc n) s c a l
    at (inr x) = again (suc n) s c a x n (k x.0 x.3)

-- it is enough to look at the formulas: a cell without one reaches itself alone
from_formulas : (n : ℕ) (s : Sheet) (a : ℕ) → ((c : ℕ) → is_one_of (cells_with_formula s) c ≡ true → reaches_by (suc n) s c a ≡ true → reaches_by n s c a ≡ true) → Stands n s a
from_formulas n s a k c h = at (cases_Bool (has_formula (content_of s c)))
  where
    alone : has_formula (content_of s c) ≡ false → ((c == a || content_reads (content_of s c) a) ≡ true) ⊎ Next n s c a → reaches_by n s c a ≡ true
    alone f (inl l) = at_once n s c a l
    alone f (inr x) = let z = reader_formula (content_of s c) x.0 x.2 in cc

    at : (has_formula (content_of s c) ≡ true) ⊎ (has_formula (content_of s c) ≡ false) → reaches_by n s c a ≡ true
    at (inl f) = k c (formula_cell s c f) h
    at (inr f) = alone f (next n s c a h)

-- with each step more formulas reach a, until none is added
grows : (n : ℕ) (s : Sheet) (a : ℕ) → Stands n s a ⊎ (n ≤ length (filter (λ c. reaches_by n s c a) (cells_with_formula s)))
grows zero s a = inr (omega arith)
grows (suc n) s a = at (grows n s a) (shrinks (λ c. reaches_by (suc n) s c a) (λ c. reaches_by n s c a) (λ c h. by_one_more n s c a h) (cells_with_formula s))
  where
    at : Stands n s a ⊎ (n ≤ length (filter (λ c. reaches_by n s c a) (cells_with_formula s))) →
        (length (filter (λ c. reaches_by n s c a) (cells_with_formula s)) < length (filter (λ c. reaches_by (suc n) s c a) (cells_with_formula s))) ⊎ Same (λ c. reaches_by (suc n) s c a) (λ c. reaches_by n s c a) (cells_with_formula s) →
        Stands (suc n) s a ⊎ (suc n ≤ length (filter (λ c. reaches_by (suc n) s c a) (cells_with_formula s)))
    at (inl k) x = inl (stands_on n s a k)
    at (inr l) (inl x) = inr (omega arith)
    at (inr l) (inr x) = inl (stands_on n s a (from_formulas n s a (λ c m h. x.1 c m h)))

-- a filter that keeps as many as there are keeps each
all_kept : (p : ℕ → Bool) (xs : List ℕ) → length xs ≤ length (filter p xs) → (a : ℕ) → is_one_of xs a ≡ true → p a ≡ true
all_kept p xs l a m = at (shrinks (λ x. true) p (λ x h. refl) xs)
  where
    at : (length (filter p xs) < length (filter (λ x. true) xs)) ⊎ Same (λ x. true) p xs → p a ≡ true
    at (inl k) = let z = keeps_few (λ (x : ℕ). true) xs in absurd (omega arith)
    at (inr k) = k.1 a m refl

-- as many steps as there are formulas are enough
all_stand : (s : Sheet) (a : ℕ) → Stands (length (cells_with_formula s)) s a
all_stand s a = at (grows (length (cells_with_formula s)) s a)
  where
    at : Stands (length (cells_with_formula s)) s a ⊎ (length (cells_with_formula s) ≤ length (filter (λ c. reaches_by (length (cells_with_formula s)) s c a) (cells_with_formula s))) → Stands (length (cells_with_formula s)) s a
    at (inl k) = k
    at (inr l) = from_formulas (length (cells_with_formula s)) s a (λ c m h. all_kept (λ x. reaches_by (length (cells_with_formula s)) s x a) (cells_with_formula s) l c m)

-- what holds at n, and goes on by one, holds at m
goes_on : (P : ℕ → Type 0) → ((k : ℕ) → P k → P (suc k)) → (m n : ℕ) → n ≤ m → P n → P m
goes_on P next zero n l p = let e : n ≡ 0 = omega arith in subst P e p
goes_on P next (suc m) n l p = at (cases_lt m n) (λ g. goes_on P next m n g p)
  where
    at : (m < n) ⊎ (n ≤ m) → (n ≤ m → P m) → P (suc m)
    at (inl g) ih = let e : n ≡ suc m = omega arith in subst P e p
    at (inr g) ih = next m (ih g)

back : (m n : ℕ) (s : Sheet) (a : ℕ) → n ≤ m → Stands n s a → Stands m s a × ((c : ℕ) → reaches_by m s c a ≡ true → reaches_by n s c a ≡ true)
back m n s a l k =
    goes_on (λ (i : ℕ). Stands i s a × ((c : ℕ) → reaches_by i s c a ≡ true → reaches_by n s c a ≡ true)) (λ i x. (stands_on i s a x.0, λ c h. x.1 c (x.0 c h))) m n l (k, λ c h. h)

walk_reaches : (n : ℕ) (s : Sheet) (c a : ℕ) → Walks n s c a → reaches_by n s c a ≡ true
walk_reaches zero s c a w = or_left (c == a) _ (eq-eqb c a w)
walk_reaches (suc zero) s c a w = at_once 1 s c a (or_right (c == a) _ (subst (λ (d : ℕ). content_reads (content_of s c) d ≡ true) w.2 w.1))
walk_reaches (suc (suc n)) s c a w = by_step (suc n) s c a w.0 (reader_formula (content_of s w.0) w.2.0 w.2.1) w.1 (walk_reaches (suc n) s w.0 a w.2)

once : (s : Sheet) (c a : ℕ) → (c == a || content_reads (content_of s c) a) ≡ true → Reaches s c a
once s c a h = at (or_cases (c == a) _ h)
  where
    at : ((c == a) ≡ true) ⊎ (content_reads (content_of s c) a ≡ true) → Reaches s c a
    at (inl e) = (0, same_cell a c e)
    at (inr r) = (1, (a, r, refl))

by_reaches : (n : ℕ) (s : Sheet) (c a : ℕ) → reaches_by n s c a ≡ true → Reaches s c a
by_reaches zero s c a h = once s c a h
by_reaches (suc n) s c a h = at (next n s c a h) (λ d. by_reaches n s d a)
  where
    at : ((c == a || content_reads (content_of s c) a) ≡ true) ⊎ Next n s c a → ((d : ℕ) → reaches_by n s d a ≡ true → Reaches s d a) → Reaches s c a
    at (inl k) ih = once s c a k
    at (inr x) ih = let w = ih x.0 x.3 in (suc w.0, (x.0, x.2, w.1))

-- what the test says is so
pub reaches_true : (s : Sheet) (c a : ℕ) → reaches s c a ≡ true → Reaches s c a
unfolding reaches
reaches_true s c a h = by_reaches (length (cells_with_formula s)) s c a h

-- and it says all that is so
pub true_reaches : (s : Sheet) (c a : ℕ) → Reaches s c a → reaches s c a ≡ true
unfolding reaches
true_reaches s c a w = at (cases_lt w.0 (length (cells_with_formula s)))
  where
    at : (w.0 < length (cells_with_formula s)) ⊎ (length (cells_with_formula s) ≤ w.0) → reaches_by (length (cells_with_formula s)) s c a ≡ true
    at (inl l) = goes_on (λ (i : ℕ). reaches_by i s c a ≡ true) (λ i k. by_one_more i s c a k) (length (cells_with_formula s)) w.0 (omega arith) (walk_reaches w.0 s c a w.1)
    at (inr l) = (back w.0 (length (cells_with_formula s)) s a l (all_stand s a)).1 c (walk_reaches w.0 s c a w.1)

pub in_cone_true : (s : Sheet) (xs : List ℕ) (c : ℕ) → in_cone s xs c ≡ true → IsInCone s xs c
in_cone_true s xs c h =
    let f = finds_in (reaches s c) xs h in
    (f.0, f.1, reaches_true s c f.0 f.2)

pub true_in_cone : (s : Sheet) (xs : List ℕ) (c : ℕ) → IsInCone s xs c → in_cone s xs c ≡ true
true_in_cone s xs c i = found (reaches s c) xs i.0 i.1 (true_reaches s c i.0 i.2)

pub not_in_cone : (s : Sheet) (xs : List ℕ) (c : ℕ) → in_cone s xs c ≡ false → IsInCone s xs c → ⊥
not_in_cone s xs c h i = let z = true_in_cone s xs c i in cc
