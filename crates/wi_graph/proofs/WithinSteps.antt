-- A search for the cells of a set, or of a list, in a rectangle.
use Rattle.wi_graph.proofs.Words.{◌≡◌, ◌⊎◌, inl, inr, ◌&&◌, ℕ, zero, suc, ◌+◌, ◌-◌, ◌<◌, ◌≤◌, true, false, List, [], ◌∷◌, length, get_or, Option, Some, None, IfSome, ap, sym, ◌∙◌, subst, arith, ltb-true, lt_of_le-ne, or_cases, and_parts, and_from, cases_lt, nat_tests, get_or_default, IsNonDecreasingBy-from_default, list_any, IsStrictlyIncreasing, IsNonDecreasing, IsPartitionPoint, nat_lt, nat_cmp, is_at, IsLeBy, BTreeSet, contains, IsKeyRangeOf, Included, Area, is_within, within_between, AreWithin, as_set, IsAhead, IsBetween, IsAtOrBefore}
use Rattle.wi_graph.proofs.Tests.{clash, at_same}

-- ---- the first of a range

le_by : (a b : ℕ) → a ≤ b → IsLeBy nat_cmp a b
le_by a b h = grind (arith, nat_tests)

by_le : (a b : ℕ) → IsLeBy nat_cmp a b → a ≤ b
by_le a b h = grind (arith, nat_tests)

pub range_first : (cells : BTreeSet ℕ) (from to k : ℕ) (r t : List ℕ) → IsKeyRangeOf nat_cmp (Included from) (Included to) cells r → r ≡ k ∷ t → (c : ℕ) → IsBetween cells from to c → k ≤ c
range_first cells from to k r t g e c h =
    let f = subst (λ (xs : List ℕ). IsKeyRangeOf nat_cmp (Included from) (Included to) cells xs) e g in
    by_le k c (f.2 c (le_by from c h.0, le_by c to h.1) h.2)

pub range_none : (cells : BTreeSet ℕ) (from to : ℕ) (r : List ℕ) → IsKeyRangeOf nat_cmp (Included from) (Included to) cells r → r ≡ [] → (c : ℕ) → IsBetween cells from to c → ⊥
range_none cells from to r g e c h = clash (contains nat_cmp cells c) h.2 (g.5 e c (le_by from c h.0, le_by c to h.1))

-- ---- the first of a list in order

climbs : (xs : List ℕ) → IsStrictlyIncreasing xs → (i m : ℕ) → i + m < length xs → get_or xs i 0 ≤ get_or xs (i + m) 0
climbs xs h i zero l = let same : i ≡ i + zero = omega arith in omega (arith, ap (λ (k : ℕ). get_or xs k 0) same)
climbs xs h i (suc m) l = let on : i + m + 1 ≡ i + suc m = omega arith in omega (arith, ap (λ (k : ℕ). get_or xs k 0) on, climbs xs h i m (omega arith), h (i + m) (omega arith))

pub never_falls : (xs : List ℕ) → IsStrictlyIncreasing xs → IsNonDecreasing xs
never_falls xs h = IsNonDecreasingBy-from_default (λ (x : ℕ). x) xs 0 (λ i j l m. let at : i + (j - i) ≡ j = omega arith in omega (arith, ap (λ (k : ℕ). get_or xs k 0) at, climbs xs h i (j - i) (omega arith)))

place_of : (xs : List ℕ) (c : ℕ) → contains nat_cmp (as_set xs) c ≡ true → (i : ℕ) × (i < length xs) × (get_or xs i 0 ≡ c)
place_of [] c h = cc
place_of (x ∷ xs) c h = at (or_cases (is_at (nat_cmp c) x) _ h) (place_of xs c)
  where
    at : (is_at (nat_cmp c) x ≡ true) ⊎ (list_any (is_at (nat_cmp c)) xs ≡ true) → (list_any (is_at (nat_cmp c)) xs ≡ true → (i : ℕ) × (i < length xs) × (get_or xs i 0 ≡ c)) →
        (i : ℕ) × (i < length (x ∷ xs)) × (get_or (x ∷ xs) i 0 ≡ c)
    at (inl e) ih = (0, omega arith, at_same c x e)
    at (inr k) ih = let i = ih k in (suc i.0, omega (arith, i.1), i.2)

-- those up to k come before a cell, and the others do not
abbrev pub Splits : ℕ → List ℕ → ℕ → Type 0
Splits from xs k = IsPartitionPoint (λ x. nat_lt x from ≡ true) (λ x. nat_lt x from ≡ false) xs k

-- so one at the cell or after it stands at k or later
pub listed_later : (xs : List ℕ) (from k c : ℕ) → IsStrictlyIncreasing xs → Splits from xs k → from ≤ c → contains nat_cmp (as_set xs) c ≡ true → (k < length xs) × (get_or xs k 0 ≤ c)
listed_later xs from k c s b l h = let x = place_of xs c h in at x.0 x.1 x.2 (cases_lt x.0 k)
  where
    at : (i : ℕ) → i < length xs → get_or xs i 0 ≡ c → (i < k) ⊎ (k ≤ i) → (k < length xs) × (get_or xs k 0 ≤ c)
    at i m e (inl n) = let g = ltb-true _ _ (b.0 i 0 (omega arith) n) in absurd (omega (arith, g, e))
    at i m e (inr n) = let g = never_falls xs s k i 0 n m in (omega arith, omega (arith, g, e))

-- the cell x stands at k
standing : (xs : List ℕ) (k x : ℕ) → k < length xs → x ≡ get_or xs k x → get_or xs k 0 ≡ x
standing xs k x l e = get_or_default xs k 0 x l ∙ sym e

pub listed_first : (xs : List ℕ) (from to k x : ℕ) → IsStrictlyIncreasing xs → Splits from xs k → k < length xs → x ≡ get_or xs k x → (c : ℕ) → IsBetween (as_set xs) from to c → x ≤ c
listed_first xs from to k x s b l e c h = let g = listed_later xs from k c s b h.0 h.2 in let f = standing xs k x l e in omega (arith, g.1, f)

-- ---- the search

-- the search is not past any cell ahead
abbrev pub IsSeeking : BTreeSet ℕ → Area → ℕ → Option ℕ → Type 0
IsSeeking cells r from ahead = ((c : ℕ) → IsAhead cells r from c → IsAtOrBefore ahead c) × IfSome ahead (λ a. from ≤ a)

pub seek_start : (cells : BTreeSet ℕ) (r : Area) (from : ℕ) → IsSeeking cells r from (Some from)
seek_start cells r from = (λ c h. h.0, omega arith)

-- what is ahead is found in the range
pub seek_first : (cells : BTreeSet ℕ) (r : Area) (from start : ℕ) (found : Option ℕ) → IsSeeking cells r from (Some start) → ((c : ℕ) → IsBetween cells start r.last c → IsAtOrBefore found c) →
    (c : ℕ) → IsAhead cells r from c → IsAtOrBefore found c
seek_first cells r from start found s f c h = f c (s.0 c h, (within_between r c h.1).1, h.2)

-- nothing is found in the range
pub seek_none : (cells : BTreeSet ℕ) (r : Area) (from start last : ℕ) (o : Option ℕ) → last ≡ r.last → IsSeeking cells r from (Some start) → ((c : ℕ) → IsBetween cells start last c → IsAtOrBefore None c) → (c : ℕ) → IsAhead cells r from c → IsAtOrBefore o c
seek_none cells r from start last o e s f c h = absurd (f c (s.0 c h, subst (λ (y : ℕ). c ≤ y) (sym e) (within_between r c h.1).1, h.2))

-- the one found is in the rectangle
pub seek_found : (cells : BTreeSet ℕ) (r : Area) (from start cell : ℕ) → IsSeeking cells r from (Some start) → IsBetween cells start r.last cell → is_within r cell ≡ true → IsAhead cells r from cell
seek_found cells r from start cell s b w = (omega (arith, s.1, b.0), w, b.2)

-- it stands beside the rectangle
pub seek_on : (cells : BTreeSet ℕ) (r : Area) (from start cell : ℕ) (next : Option ℕ) → IsSeeking cells r from (Some start) → IsBetween cells start r.last cell → ((c : ℕ) → IsBetween cells start r.last c → IsAtOrBefore (Some cell) c) → is_within r cell ≡ false →
    IfSome next (λ a. (cell < a) × (a ≤ r.last)) → ((a : ℕ) → is_within r a ≡ true → cell < a → IsAtOrBefore next a) → IsSeeking cells r from next
seek_on cells r from start cell next s b f n after first = (λ c h. first c h.1 (later c h), on next after)
  where
    later : (c : ℕ) → IsAhead cells r from c → cell < c
    later c h = at (seek_first cells r from start (Some cell) s f c h)
      where
        other : cell ≡ c → ⊥
        other e = clash (is_within r c) h.1 (ap (is_within r) (sym e) ∙ n)

        at : cell ≤ c → cell < c
        at l = lt_of_le-ne l other

    on : (o : Option ℕ) → IfSome o (λ a. (cell < a) × (a ≤ r.last)) → IfSome o (λ a. from ≤ a)
    on None k = tt
    on (Some a) k = omega (arith, s.1, b.0, k.0)

-- ---- a search of what the rectangle has in common with bounds of the cells

pub none_ahead : (cells : BTreeSet ℕ) (r : Area) (from : ℕ) (o : Option ℕ) → o ≡ None → IfSome o (IsAhead cells r from)
none_ahead cells r from None e = tt
none_ahead cells r from (Some x) e = cc

-- where there is nothing in common, no cell is ahead
pub apart_first : (cells : BTreeSet ℕ) (r bounds : Area) (from : ℕ) (o : Option ℕ) → AreWithin bounds cells → ((c : ℕ) → false ≡ (is_within r c && is_within bounds c)) → (c : ℕ) → IsAhead cells r from c → IsAtOrBefore o c
apart_first cells r bounds from o w n c h = clash (is_within r c && is_within bounds c) (and_from (is_within r c) _ h.1 (w c h.2)) (sym (n c))

-- the cells are seen as a set that is the same, and the search begins at the same cell
pub part_found : (cells set : BTreeSet ℕ) (r bounds part : Area) (from start : ℕ) (o : Option ℕ) → set ≡ cells → start ≡ from → ((c : ℕ) → is_within part c ≡ (is_within r c && is_within bounds c)) → IfSome o (IsAhead set part start) →
    IfSome o (IsAhead cells r from)
part_found cells set r bounds part from start None s e w h = tt
part_found cells set r bounds part from start (Some x) s e w h = (
  subst (λ (y : ℕ). y ≤ x) e h.0,
  (and_parts (is_within r x) _ (sym (w x) ∙ h.1)).0,
  ap (λ (z : BTreeSet ℕ). contains nat_cmp z x) (sym s) ∙ h.2,
)

pub part_first : (cells set : BTreeSet ℕ) (r bounds part : Area) (from start : ℕ) (o : Option ℕ) → set ≡ cells → start ≡ from → AreWithin bounds cells → ((c : ℕ) → is_within part c ≡ (is_within r c && is_within bounds c)) →
    ((c : ℕ) → IsAhead set part start c → IsAtOrBefore o c) → (c : ℕ) → IsAhead cells r from c → IsAtOrBefore o c
part_first cells set r bounds part from start o s e b w f c h = f c (
  subst (λ (y : ℕ). y ≤ c) (sym e) h.0,
  w c ∙ and_from (is_within r c) _ h.1 (b c h.2),
  ap (λ (z : BTreeSet ℕ). contains nat_cmp z c) s ∙ h.2,
)
