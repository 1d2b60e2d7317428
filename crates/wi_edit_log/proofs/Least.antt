-- The first cell that passes is the least of those that pass, as the definition has it.
use Rattle.wi_edit_log.proofs.Words.{◌≡◌, ◌∙◌, ℕ, zero, suc, ◌+◌, ◌-◌, ◌==◌, ◌≤◌, ◌<◌, ◌⊎◌, inl, inr, true, false, ◌||◌, ◌&&◌, not, List, [], ◌∷◌, length, drop, map, filter, min, Option, Some, refl, ap, sym, subst, arith, list_any, flat_map, reduce, fold, range_with_len, drop_min, drop-map, list_any-append, both_ways, cases_eq, eq-eqb, eqb-true, or_cases, or_left, or_right, one_truth, Area, columns, place, row_of, column_of, is_one_of, is_within, cells_of, cells_of_row, row_of_place, column_of_place, column_within, within_from, within_parts, any_in_range, Entry, is_within_one, is_stale, first_stale, IsFirst, entries_in, entry_in, is_wanted_of_others, Edit, has-filter}
use Rattle.wi_edit_log.proofs.First.{only_first, same_first}

-- ---- the cells of a rectangle are those within it

pub place_of : (a : ℕ) → a ≡ place (row_of a) (column_of a)
place_of a = omega arith

in_row : (row first n c : ℕ) → first ≤ c → c < first + n → is_one_of (map (place row) (range_with_len first n)) (place row c) ≡ true
in_row row first n c l m =
    any_in_range (λ d. place row d == place row c) (λ a k. is_one_of (map (place row) (range_with_len a k)) (place row c)) (λ a k. refl) first n c l m (eq-eqb (place row c) (place row c) refl)

of_row : (row first n a : ℕ) → is_one_of (map (place row) (range_with_len first n)) a ≡ true → (c : ℕ) × (first ≤ c) × (c < first + n) × (a ≡ place row c)
of_row row first zero a h = absurd (both_ways false refl h)
of_row row first (suc n) a h = elim (or_cases (place row first == a) _ h) [
  | inl t ↦ (first, omega arith, omega arith, sym (eqb-true (place row first) a t))
  | inr t ↦ let r = of_row row (first + 1) n a t in (r.0, omega (arith, r.1), omega (arith, r.2), r.3)
]

in_rows : (r : Area) (first n row a : ℕ) → first ≤ row → row < first + n → is_one_of (cells_of_row row r) a ≡ true → is_one_of (flat_map (λ k. cells_of_row k r) (range_with_len first n)) a ≡ true
in_rows r first n row a l m h =
    any_in_range (λ i. is_one_of (cells_of_row i r) a) (λ i k. is_one_of (flat_map (λ j. cells_of_row j r) (range_with_len i k)) a)
    (λ i k. list_any-append (λ x. x == a) (cells_of_row i r) (flat_map (λ j. cells_of_row j r) (range_with_len (i + 1) k))) first n row l m h

of_rows : (r : Area) (first n a : ℕ) → is_one_of (flat_map (λ k. cells_of_row k r) (range_with_len first n)) a ≡ true → (row : ℕ) × (first ≤ row) × (row < first + n) × (is_one_of (cells_of_row row r) a ≡ true)
of_rows r first zero a h = absurd (both_ways false refl h)
of_rows r first (suc n) a h =
    let rest = flat_map (λ k. cells_of_row k r) (range_with_len (first + 1) n) in
    elim (or_cases (is_one_of (cells_of_row first r) a) (is_one_of rest a) (sym (list_any-append (λ x. x == a) (cells_of_row first r) rest) ∙ h)) [
      | inl t ↦ (first, omega arith, omega arith, t)
      | inr t ↦ let k = of_rows r (first + 1) n a t in (k.0, omega (arith, k.1), omega (arith, k.2), k.3)
    ]

inside : (r : Area) (a : ℕ) → is_within r a ≡ true → is_one_of (cells_of r) a ≡ true
inside r a h =
    let p = within_parts r a h in
    let there = in_row (row_of a) (column_of r.first) ((column_of r.last + 1) - column_of r.first) (column_of a) p.2 (ends (column_of r.first) (column_of a) (column_of r.last) p.2 p.3) in
    in_rows r (row_of r.first) ((row_of r.last + 1) - row_of r.first) (row_of a) a p.0 (ends (row_of r.first) (row_of a) (row_of r.last) p.0 p.1)
    (subst (λ b. is_one_of (cells_of_row (row_of a) r) b ≡ true) (sym (place_of a)) there)
  where
    ends : (f c l : ℕ) → f ≤ c → c ≤ l → c < f + ((l + 1) - f)
    ends f c l g h = omega (arith, g, h)

at_most : (f c l : ℕ) → f ≤ c → c < f + ((l + 1) - f) → c ≤ l
at_most f c l g h = omega (arith, g, h)

within : (r : Area) (a : ℕ) → is_one_of (cells_of r) a ≡ true → is_within r a ≡ true
within r a h =
    let row = of_rows r (row_of r.first) ((row_of r.last + 1) - row_of r.first) a h in
    let col = of_row row.0 (column_of r.first) ((column_of r.last + 1) - column_of r.first) a row.3 in
    let low = at_most (row_of r.first) row.0 (row_of r.last) row.1 row.2 in
    let right = at_most (column_of r.first) col.0 (column_of r.last) col.1 col.2 in
    let fits : col.0 < columns = fit col.0 (column_of r.last) right (column_within r.last) in
    let rows : row.0 ≡ row_of a = sym (ap row_of col.3 ∙ row_of_place row.0 col.0 fits) in
    let cols : col.0 ≡ column_of a = sym (ap column_of col.3 ∙ column_of_place row.0 col.0 fits) in
    within_from r a (subst (λ k. row_of r.first ≤ k) rows row.1) (subst (λ k. k ≤ row_of r.last) rows low)
    (subst (λ k. column_of r.first ≤ k) cols col.1) (subst (λ k. k ≤ column_of r.last) cols right)
  where
    fit : (c d : ℕ) → c ≤ d → d < columns → c < columns
    fit c d g h = omega (arith, g, h)

cells_are : (areas : List Area) (a : ℕ) → is_one_of (flat_map cells_of areas) a ≡ is_within_one areas a
cells_are [] a = refl
cells_are (r ∷ rs) a =
    list_any-append (λ x. x == a) (cells_of r) (flat_map cells_of rs)
    ∙ ap (λ b. b || is_one_of (flat_map cells_of rs) a) (one_truth (is_one_of (cells_of r) a) (is_within r a) (within r a) (inside r a))
    ∙ ap (λ b. is_within r a || b) (cells_are rs a)

-- ---- the least of a list

only_one : (x a : ℕ) → ((x == a) ≡ true) ⊎ (false ≡ true) → x ≤ a
only_one x a (inl t) = let e = eqb-true x a t in omega (arith, e)
only_one x a (inr t) = absurd (both_ways false refl t)

-- the smaller of two numbers goes on
module _ (x y : ℕ) (ys : List ℕ) (m : ℕ) (rest : IsFirst (is_one_of (min x y ∷ ys)) (Some m)) where
  one_of : (k : ℕ) → k ≡ min x y → (k ≡ x) ⊎ (k ≡ x → Prim.⊥) → (k ≡ x) ⊎ (k ≡ y)
  one_of k e (inl h) = inl h
  one_of k e (inr f) = inr (omega (arith, e, f))

  among : (k : ℕ) → ((min x y == k) ≡ true) ⊎ (is_one_of ys k ≡ true) → ((x == k) || ((y == k) || is_one_of ys k)) ≡ true
  among k (inl t) = elim (one_of k (sym (eqb-true (min x y) k t)) (cases_eq k x)) [
    | inl e ↦ or_left (x == k) _ (eq-eqb x k (sym e))
    | inr e ↦ or_right (x == k) _ (or_left (y == k) _ (eq-eqb y k (sym e)))
  ]
  among k (inr t) = or_right (x == k) _ (or_right (y == k) _ t)

  low : m ≤ min x y
  low = rest.least (min x y) (or_left (min x y == min x y) _ (eq-eqb (min x y) (min x y) refl))

  at_second : (a : ℕ) → ((y == a) ≡ true) ⊎ (is_one_of ys a ≡ true) → m ≤ a
  at_second a (inl t) = let e = eqb-true y a t in omega (arith, e, low)
  at_second a (inr t) = rest.least a (or_right (min x y == a) _ t)

  later : (a : ℕ) → ((x == a) ≡ true) ⊎ (((y == a) || is_one_of ys a) ≡ true) → m ≤ a
  later a (inl t) = let e = eqb-true x a t in omega (arith, e, low)
  later a (inr t) = at_second a (or_cases (y == a) (is_one_of ys a) t)

  least_of_more : IsFirst (is_one_of (x ∷ y ∷ ys)) (Some m)
  least_of_more = record {
    passes = among m (or_cases (min x y == m) (is_one_of ys m) rest.passes);
    least = λ a t. later a (or_cases (x == a) ((y == a) || is_one_of ys a) t);
  }

least_of : (x : ℕ) (xs : List ℕ) → IsFirst (is_one_of (x ∷ xs)) (Some (fold min x xs))
least_of x [] = record {
  passes = or_left (x == x) false (eq-eqb x x refl);
  least = λ a t. only_one x a (or_cases (x == a) false t);
}
least_of x (y ∷ ys) = least_of_more x y ys (fold min (min x y) ys) (least_of (min x y) ys)

least : (xs : List ℕ) → IsFirst (is_one_of xs) (reduce min xs)
least [] = record { passes = tt; least = λ a t. absurd (both_ways false refl t) }
least (x ∷ xs) = least_of x xs

-- ---- the definition's cell

pub stale_is_first : (log : List Entry) (es : List Edit) (session since k : ℕ) (areas : List Area) (o : Option ℕ) → entries_in es ≡ log → k ≡ min since (length es)
    → IsFirst (is_wanted_of_others (drop k es) session areas) o → o ≡ first_stale log session since areas
stale_is_first log es session since k areas o v e h =
    let stale = is_stale log session since in
    let cells = flat_map cells_of areas in
    let rest : entries_in (drop k es) ≡ drop since log =
    ap (λ n. entries_in (drop n es)) e ∙ ap entries_in (drop_min since es) ∙ sym (drop-map entry_in since es) ∙ ap (drop since) v in
    let same : (a : ℕ) → is_wanted_of_others (drop k es) session areas a ≡ is_one_of (filter stale cells) a =
    λ a. ap (λ ys. is_within_one areas a && list_any (λ (x : Entry). not (x.session == session) && is_within_one x.areas a) ys) rest
    ∙ sym (has-filter stale cells a ∙ ap (λ b. b && stale a) (cells_are areas a)) in
    only_first (is_one_of (filter stale cells)) o (reduce min (filter stale cells)) (same_first (is_wanted_of_others (drop k es) session areas) (is_one_of (filter stale cells)) o same h) (least (filter stale cells))
