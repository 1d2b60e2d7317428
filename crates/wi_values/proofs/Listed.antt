-- Which numbers a list has, and what stands under one.
use Rattle.wi_values.proofs.Words.{◌≡◌, ◌∙◌, ◌==◌, ◌<◌, ◌+◌, ◌&&◌, ◌||◌, ℕ, Bool, true, List, [], ◌∷◌, length, get_or, take, drop, filter, refl, sym, ap, subst, Any-from_list_any, any-filter_same, list_any-append, list_any_at, list_any_more, take-append-drop, and_comm, eq-eqb, eqb-true, or_left, Contains, list_any, nat_cmp, is_at, is_one_of, ◌≤◌, false, suc, Result, Ok, Err, MatchResult, ⊎_elim, arith, is_ok, cases_lt, ne_eqb, searched, non_decreasing_from_sorted, sorted_from_strictly_increasing, IsStrictlyIncreasing, IsBinarySearchResult, IsSearchInRange, IsNonDecreasingBy, IsStrictlySortedBy, Option, Some, None, zero, map, lookup, ordering_index, ranked, below_from_sorted, length-map, get_or-map, nat_tests}
use Rattle.wi_values.proofs.Order.{is_at-eq, turn_test}

-- that of the i-th
pub has_at : (xs : List ℕ) (i c d : ℕ) → i < length xs → get_or xs i d ≡ c → is_one_of xs c ≡ true
has_at xs i c d l e = list_any_at (λ (x : ℕ). x == c) xs i d l (eq-eqb _ c e)

-- a number that stands nowhere
pub has_nowhere : (xs : List ℕ) (c : ℕ) → ((k : ℕ) → k < length xs → get_or xs k 0 ≡ c → ⊥) → is_one_of xs c ≡ false
has_nowhere [] c h = refl
has_nowhere (x ∷ xs) c h =
    ap (λ b. b || is_one_of xs c) (ne_eqb x c (h 0 (omega arith))) ∙ has_nowhere xs c (λ k l e. h (suc k) (omega (arith, l)) e)

-- what a binary search says
abbrev pub Searched : List ℕ → ℕ → Result ℕ ℕ → Type 0
Searched xs c r = MatchResult r (λ i. (i < length xs) × (get_or xs i 0 ≡ c))
    (λ i. (i ≤ length xs) × ((k : ℕ) → k < i → get_or xs k 0 < c) × ((k : ℕ) → i ≤ k → k < length xs → c < get_or xs k 0))

pub searched_in : (xs : List ℕ) (c : ℕ) (r : Result ℕ ℕ) → IsStrictlyIncreasing xs → IsBinarySearchResult (λ y. nat_cmp y c) xs r → Searched xs c r
searched_in xs c r order h =
    searched xs c r h (λ i j l m. non_decreasing_from_sorted xs (sorted_from_strictly_increasing xs order) i j 0 l m)

pub search_tells : (xs : List ℕ) (c : ℕ) (r : Result ℕ ℕ) → IsStrictlyIncreasing xs → IsBinarySearchResult (λ y. nat_cmp y c) xs r → is_ok r ≡ is_one_of xs c
search_tells xs c r order h = by r (searched_in xs c r order h)
  where
    by : (s : Result ℕ ℕ) → Searched xs c s → is_ok s ≡ is_one_of xs c
    by (Ok i) f = sym (has_at xs i c 0 f.0 f.1)
    by (Err i) f = sym (has_nowhere xs c (λ k l e. ⊎_elim (λ m. omega (arith, f.1 k m, e)) (λ m. omega (arith, f.2 k m l, e)) (cases_lt k i)))

-- those of the first i and of one more, as at a step of a loop
pub has_one_more : (xs : List ℕ) (i x c : ℕ) → i < length xs → x ≡ get_or xs i x → is_one_of (take (i + 1) xs) c ≡ (is_one_of (take i xs) c || (x == c))
has_one_more xs i x c l e = list_any_more (λ (y : ℕ). y == c) xs i x l ∙ ap (λ (y : ℕ). is_one_of (take i xs) c || (y == c)) (sym e)

-- what the first i have, all have
pub has_taken : (xs : List ℕ) (i c : ℕ) → is_one_of (take i xs) c ≡ true → is_one_of xs c ≡ true
has_taken xs i c h =
    subst (λ (ys : List ℕ). is_one_of ys c ≡ true) (take-append-drop i xs)
    (list_any-append (λ (y : ℕ). y == c) (take i xs) (drop i xs) ∙ or_left _ _ h)

-- those that pass a test
pub has-filter : (p : ℕ → Bool) (xs : List ℕ) (c : ℕ) → is_one_of (filter p xs) c ≡ (is_one_of xs c && p c)
has-filter p xs c = any-filter_same (λ (x : ℕ). x == c) p (p c) (λ x t. ap p (eqb-true x c t)) xs ∙ and_comm (p c) (is_one_of xs c)

-- the same as a set of keys tells it
pub has_key : (ks : List ℕ) (c : ℕ) → list_any (is_at (nat_cmp c)) ks ≡ is_one_of ks c
has_key [] c = refl
has_key (k ∷ ks) c =
    ap (λ (b : Bool). b || list_any (is_at (nat_cmp c)) ks) (is_at-eq c k ∙ turn_test c k)
    ∙ ap (λ (b : Bool). (k == c) || b) (has_key ks c)

-- and in the words of `Contains`
pub has-from_Contains : (xs : List ℕ) (c : ℕ) → Contains xs c → is_one_of xs c ≡ true
has-from_Contains xs c h = has_at xs h.0 c c h.1 h.2

pub Contains-from_has : (xs : List ℕ) (c : ℕ) → is_one_of xs c ≡ true → Contains xs c
Contains-from_has xs c h =
    let found = Any-from_list_any (λ (x : ℕ). x == c) xs h in
    subst (λ (x : ℕ). Contains xs x) (eqb-true found.1 c found.4) (found.0, found.2, found.3)

-- ---- what a search by halves finds among those that have a key each

module _ {X V : Type 0} (key : X → ℕ) (value : X → V) where
  -- what stands under a key
  abbrev pub under : List X → ℕ → Option V
  under xs a = lookup (is_at (nat_cmp a)) (map (λ x. (key x, value x)) xs)

  -- none of them has the key
  abbrev NoneAt : ℕ → List X → Type 0
  NoneAt a xs = (k : ℕ) (d : X) → k < length xs → key (get_or xs k d) ≡ a → ⊥

  found_nowhere : (a : ℕ) (xs : List X) → NoneAt a xs → None ≡ under xs a
  found_nowhere a [] h = refl
  found_nowhere a (x ∷ xs) h = grind (arith, nat_tests, h 0 x (omega arith), found_nowhere a xs (λ k d l e. h (suc k) d (omega arith) e))

  -- the first that has it
  found_first : (a : ℕ) (xs : List X) (i : ℕ) (d : X) → i < length xs → key (get_or xs i d) ≡ a
      → ((k : ℕ) → k < i → key (get_or xs k d) ≡ a → ⊥) → Some (value (get_or xs i d)) ≡ under xs a
  found_first a [] i d l e h = absurd (omega arith)
  found_first a (x ∷ xs) zero d l e h = grind (arith, nat_tests, e)
  found_first a (x ∷ xs) (suc i) d l e h = grind (arith, nat_tests, h 0 (omega arith), found_first a xs i d (omega arith) e (λ k m p. h (suc k) (omega arith) p))

  module _ (xs : List X) (order : IsStrictlySortedBy nat_cmp (map key xs)) (a : ℕ) where
    keys_rise : (i j : ℕ) (d : X) → i < j → j < length xs → key (get_or xs i d) < key (get_or xs j d)
    keys_rise i j d l m =
        let long : length (map key xs) ≡ length xs = length-map xs key in
        let below = below_from_sorted (map key xs) i j 0 order l (omega (arith, long)) in
        let first = get_or-map key xs i d 0 (omega arith) in
        let second = get_or-map key xs j d 0 m in
        omega (arith, below, first, second)

    comparisons_rise : IsNonDecreasingBy (λ x. ordering_index (nat_cmp (key x) a)) xs
    comparisons_rise i j d l m = grind (arith, nat_tests, keys_rise i j d, λ (same : i ≡ j). ap (λ (k : ℕ). key (get_or xs k d)) same)

    searched_by_key : (r : Result ℕ ℕ) → IsSearchInRange r (length xs) → IsBinarySearchResult (λ x. nat_cmp (key x) a) xs r
        → MatchResult r (λ i. (d : X) → Some (value (get_or xs i d)) ≡ under xs a) (λ i. None ≡ under xs a)
    searched_by_key (Ok i) within found = λ d.
        let here : key (get_or xs i d) ≡ a = ranked _ a _ (sym (found d)) in
        found_first a xs i d within here (λ k l p. omega (arith, keys_rise k i d l within, here, p))
    searched_by_key (Err i) within parted = found_nowhere a xs (λ k d l p.
        let before : k < i → key (get_or xs k d) < a = λ b. ranked _ a _ (sym ((parted comparisons_rise).0 k d (omega arith) b)) in
        let after : i ≤ k → a < key (get_or xs k d) = λ b. ranked _ a _ (sym ((parted comparisons_rise).1 k d b l)) in
        grind (arith, before, after, p))

    -- the same of an ending that is known by another name
    pub found_by_key : (r s : Result ℕ ℕ) → r ≡ s → IsSearchInRange r (length xs) → IsBinarySearchResult (λ x. nat_cmp (key x) a) xs r
        → MatchResult s (λ i. (d : X) → Some (value (get_or xs i d)) ≡ under xs a) (λ i. None ≡ under xs a)
    found_by_key r s e within found =
        subst (λ (t : Result ℕ ℕ). MatchResult t (λ i. (d : X) → Some (value (get_or xs i d)) ≡ under xs a) (λ i. None ≡ under xs a)) e
        (searched_by_key r within found)
