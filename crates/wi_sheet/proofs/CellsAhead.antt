-- The occupied cells of a rectangle that are still to be found.
use Rattle.wi_sheet.proofs.Words.{◌≡◌, ℕ, add-one, ◌+◌, ◌<◌, ◌≤◌, Bool, true, false, cond, List, [], ◌∷◌, ◌++◌, filter, Option, Some, None, IfSome, IfNone, refl, sym, ap, ◌∙◌, subst, arith, append_assoc, append-nil, nat_le, nat_lt, find, IsStrictlyIncreasing, keys_of, AllPairs-from_increasing, IsStrictlyIncreasing-filter, leb-true, le-leb, le-ltb, Area, is_within, within_between, places_left, fewer_places, Sheet}
use Rattle.wi_sheet.proofs.Filters.{alike_within, all_pass, all_fail}
use Rattle.wi_sheet.proofs.InOrder.{from_first, none_pass}

-- the occupied cells of a rectangle
abbrev pub occupied : Sheet → Area → List ℕ
occupied s r = filter (is_within r) (keys_of s)

-- those from a cell on, or none
abbrev pub cells_ahead : Sheet → Area → Option ℕ → List ℕ
cells_ahead s r None = []
cells_ahead s r (Some from) = filter (nat_le from) (occupied s r)

-- a test that each cell of the rectangle passes, and one that none passes
all_within : (r : Area) (p : ℕ → Bool) → ((a : ℕ) → is_within r a ≡ true → p a ≡ true) → (xs : List ℕ) → filter p (filter (is_within r) xs) ≡ filter (is_within r) xs
all_within r p h xs = alike_within (is_within r) p (λ a. true) h xs ∙ all_pass (λ a. true) (λ a. refl) (filter (is_within r) xs)

none_within : (r : Area) (p : ℕ → Bool) → ((a : ℕ) → is_within r a ≡ true → p a ≡ false) → (xs : List ℕ) → filter p (filter (is_within r) xs) ≡ []
none_within r p h xs = alike_within (is_within r) p (λ a. false) h xs ∙ all_fail (λ a. false) (λ a. refl) (filter (is_within r) xs)

-- at first all are ahead
pub all_ahead : (s : Sheet) (r : Area) (found : List ℕ) → found ≡ [] → found ++ cells_ahead s r (Some r.first) ≡ occupied s r
all_ahead s r found e =
    ap (λ (xs : List ℕ). xs ++ cells_ahead s r (Some r.first)) e
    ∙ all_within r (nat_le r.first) (λ a w. le-leb r.first a ((within_between r a w).0)) (keys_of s)

-- none is found any more
pub none_ahead : (s : Sheet) (r : Area) (found : List ℕ) (ahead : Option ℕ) (from : ℕ) → ahead ≡ Some from → None ≡ find (λ a. nat_le from a) (occupied s r)
    → found ++ cells_ahead s r ahead ≡ occupied s r → found ≡ occupied s r
none_ahead s r found ahead from e h i =
    sym (append-nil found) ∙ ap (λ (xs : List ℕ). found ++ xs) (sym (none_pass (nat_le from) (occupied s r) (sym h)))
    ∙ ap (λ (o : Option ℕ). found ++ cells_ahead s r o) (sym e) ∙ i

after_cell : (s : Sheet) (r : Area) (cell : ℕ) (next : Option ℕ) → IfSome next (λ n. (n ≡ cell + 1) × (n ≤ r.last)) → IfNone next (r.last ≤ cell) → cells_ahead s r next ≡ filter (nat_lt cell) (occupied s r)
after_cell s r cell None some none = sym (none_within r (nat_lt cell) (λ a w. le-ltb cell a (passed a (within_between r a w).1 none)) (keys_of s))
  where
    passed : (a : ℕ) → a ≤ r.last → r.last ≤ cell → a ≤ cell
    passed a l m = omega arith
after_cell s r cell (Some n) some none = alike_within (is_within r) (nat_le n) (nat_lt cell) (λ a w. ap (λ (k : ℕ). nat_le k a) (some.0 ∙ add-one cell)) (keys_of s)

-- one is found
pub one_ahead : (s : Sheet) (r : Area) (found new : List ℕ) (ahead next : Option ℕ) (from cell last : ℕ) → IsStrictlyIncreasing (keys_of s) → ahead ≡ Some from
    → Some cell ≡ find (λ a. nat_le from a) (occupied s r) → new ≡ found ++ cell ∷ [] → last ≡ r.last → IfSome next (λ n. (n ≡ cell + 1) × (n ≤ last)) → IfNone next (last ≤ cell)
    → found ++ cells_ahead s r ahead ≡ occupied s r → new ++ cells_ahead s r next ≡ occupied s r
one_ahead s r found new ahead next from cell last order e h grown is some none i =
    ap (λ (xs : List ℕ). xs ++ cells_ahead s r next) grown
    ∙ append_assoc found (cell ∷ []) (cells_ahead s r next)
    ∙ ap (λ (xs : List ℕ). found ++ cell ∷ xs) (after_cell s r cell next (subst (λ (x : ℕ). IfSome next (λ n. (n ≡ cell + 1) × (n ≤ x))) is some) (subst (λ (x : ℕ). IfNone next (x ≤ cell)) is none))
    ∙ ap (λ (xs : List ℕ). found ++ xs) (sym (from_first from cell (occupied s r) (AllPairs-from_increasing _ (IsStrictlyIncreasing-filter (is_within r) (keys_of s) order)) (sym h)))
    ∙ ap (λ (o : Option ℕ). found ++ cells_ahead s r o) (sym e) ∙ i

-- a cell that is found lies in the rectangle, at the cell from which it was sought or after it
pub found_at : (s : Sheet) (r : Area) (from cell : ℕ) → Some cell ≡ find (λ a. nat_le from a) (occupied s r) → (from ≤ cell) × (cell ≤ r.last)
found_at s r from cell h = go (keys_of s) h
  where
    Found : List ℕ → Type 0
    Found xs = Some cell ≡ find (λ a. nat_le from a) (filter (is_within r) xs) → (from ≤ cell) × (cell ≤ r.last)

    here : (x : ℕ) (xs : List ℕ) (b : Bool) → is_within r x ≡ true → nat_le from x ≡ b → Found xs
        → Some cell ≡ cond b (Some x) (find (λ a. nat_le from a) (filter (is_within r) xs)) → (from ≤ cell) × (cell ≤ r.last)
    here x xs true w e ih k =
        let same : cell ≡ x = cc in
        let low : from ≤ x = leb-true from x e in
        let high : x ≤ r.last = (within_between r x w).1 in
        (omega arith, omega arith)
    here x xs false w e ih k = ih k

    one : (x : ℕ) (xs : List ℕ) (b : Bool) → is_within r x ≡ b → Found xs
        → Some cell ≡ find (λ a. nat_le from a) (cond b (x ∷ filter (is_within r) xs) (filter (is_within r) xs)) → (from ≤ cell) × (cell ≤ r.last)
    one x xs true w ih k = here x xs (nat_le from x) w refl ih k
    one x xs false w ih k = ih k

    go : (xs : List ℕ) → Found xs
    go [] k = absurd (let z = k in cc)
    go (x ∷ xs) k = one x xs (is_within r x) refl (go xs) k

-- so fewer cells are left to be looked at
pub fewer : (s : Sheet) (r : Area) (ahead next : Option ℕ) (from cell last : ℕ) → ahead ≡ Some from → Some cell ≡ find (λ a. nat_le from a) (occupied s r) → last ≡ r.last
    → IfSome next (λ n. (n ≡ cell + 1) × (n ≤ last)) → places_left r next < places_left r ahead
fewer s r ahead next from cell last e h is some =
    subst (λ (o : Option ℕ). places_left r next < places_left r o) (sym e) (fewer_places r from cell next (found_at s r from cell h).0 (found_at s r from cell h).1 (behind next some))
  where
    behind : (o : Option ℕ) → IfSome o (λ n. (n ≡ cell + 1) × (n ≤ last)) → IfSome o (λ a. (cell < a) × (a ≤ r.last))
    behind None k = tt
    behind (Some n) k = let after : n ≡ cell + 1 = k.0 in let within : n ≤ last = k.1 in (omega arith, omega arith)
