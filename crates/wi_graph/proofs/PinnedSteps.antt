-- Which cells read a circular cell outside a cone.
use Rattle.wi_graph.proofs.Words.{◌≡◌, ◌==◌, ◌&&◌, ◌||◌, ◌⊎◌, inl, inr, not, ℕ, ◌+◌, ◌<◌, ◌≤◌, Bool, true, false, List, [], ◌∷◌, filter, Option, Some, None, IfSome, ap, sym, ◌∙◌, arith, lt_of_le-ne, or_cases, or_left, or_right, and_parts, and_from, false_from_ne_true, not-true, not_from_false, any-filter_same, list_any, nat_cmp, Vec, BTreeMap, BTreeSet, contains, Area, is_within, is_within_one, is_one_of, IsAhead, IsAtOrBefore, has_cyclic_outside, reads_outside, within_between, places_left, has_key}
use Rattle.wi_graph.proofs.Tests.{is_itself, clash}
use Rattle.wi_graph.proofs.Walks.{same_cell, found}

pub outside_finds : (cells : BTreeSet ℕ) (ks : List ℕ) (r : Area) → list_any (λ d. is_within r d && not (contains nat_cmp cells d)) ks ≡ true → (d : ℕ) × (is_one_of ks d ≡ true) × (is_within r d ≡ true) × (contains nat_cmp cells d ≡ false)
outside_finds cells [] r h = cc
outside_finds cells (k ∷ ks) r h = at (or_cases (is_within r k && not (contains nat_cmp cells k)) _ h) (outside_finds cells ks r)
  where
    at : ((is_within r k && not (contains nat_cmp cells k)) ≡ true) ⊎ (list_any (λ d. is_within r d && not (contains nat_cmp cells d)) ks ≡ true) →
        (list_any (λ d. is_within r d && not (contains nat_cmp cells d)) ks ≡ true → (d : ℕ) × (is_one_of ks d ≡ true) × (is_within r d ≡ true) × (contains nat_cmp cells d ≡ false)) →
        (d : ℕ) × (is_one_of (k ∷ ks) d ≡ true) × (is_within r d ≡ true) × (contains nat_cmp cells d ≡ false)
    at (inl m) ih = let x = and_parts (is_within r k) (not (contains nat_cmp cells k)) m in (k, or_left (k == k) _ (is_itself k), x.0, not-true (contains nat_cmp cells k) x.1)
    at (inr m) ih = let x = ih m in (x.0, or_right (k == x.0) _ x.1, x.2, x.3)

pub pinned_finds : (cyclic cells : BTreeSet ℕ) (rs : List Area) → list_any (has_cyclic_outside cyclic cells) rs ≡ true → (d : ℕ) × (is_one_of cyclic.keys d ≡ true) × (is_within_one rs d ≡ true) × (contains nat_cmp cells d ≡ false)
pinned_finds cyclic cells [] h = cc
pinned_finds cyclic cells (r ∷ rs) h = at (or_cases (has_cyclic_outside cyclic cells r) _ h) (pinned_finds cyclic cells rs)
  where
    at : (has_cyclic_outside cyclic cells r ≡ true) ⊎ (list_any (has_cyclic_outside cyclic cells) rs ≡ true) → (list_any (has_cyclic_outside cyclic cells) rs ≡ true → (d : ℕ) × (is_one_of cyclic.keys d ≡ true) × (is_within_one rs d ≡ true) × (contains nat_cmp cells d ≡ false)) →
        (d : ℕ) × (is_one_of cyclic.keys d ≡ true) × (is_within_one (r ∷ rs) d ≡ true) × (contains nat_cmp cells d ≡ false)
    at (inl m) ih = let x = outside_finds cells cyclic.keys r m in (x.0, x.1, or_left (is_within r x.0) _ x.2, x.3)
    at (inr m) ih = let x = ih m in (x.0, x.1, or_right (is_within r x.0) _ x.2, x.3)

pub finds_pinned : (cyclic cells : BTreeSet ℕ) (rs : List Area) (d : ℕ) → is_one_of cyclic.keys d ≡ true → is_within_one rs d ≡ true → contains nat_cmp cells d ≡ false → list_any (has_cyclic_outside cyclic cells) rs ≡ true
finds_pinned cyclic cells [] d m w n = cc
finds_pinned cyclic cells (r ∷ rs) d m w n = at (or_cases (is_within r d) _ w) (λ k. finds_pinned cyclic cells rs d m k n)
  where
    at : (is_within r d ≡ true) ⊎ (is_within_one rs d ≡ true) → (is_within_one rs d ≡ true → list_any (has_cyclic_outside cyclic cells) rs ≡ true) → (has_cyclic_outside cyclic cells r || list_any (has_cyclic_outside cyclic cells) rs) ≡ true
    at (inl k) ih = or_left (has_cyclic_outside cyclic cells r) _ (found (λ x. is_within r x && not (contains nat_cmp cells x)) cyclic.keys d m (and_from (is_within r d) _ k (not_from_false (contains nat_cmp cells d) n)))
    at (inr k) ih = or_right (has_cyclic_outside cyclic cells r) _ (ih k)

pub pinned_test : (reads : BTreeMap ℕ (Vec Area)) (cyclic cells : BTreeSet ℕ) (outer : List ℕ) (pinned : BTreeSet ℕ) → outer ≡ filter (reads_outside reads cyclic cells) cells.keys → ((c : ℕ) → contains nat_cmp pinned c ≡ is_one_of outer c) →
    (c : ℕ) → contains nat_cmp pinned c ≡ (reads_outside reads cyclic cells c && contains nat_cmp cells c)
pinned_test reads cyclic cells outer pinned e h c =
    h c ∙ ap (λ (xs : List ℕ). is_one_of xs c) e
    ∙ any-filter_same (λ x. x == c) (reads_outside reads cyclic cells) (reads_outside reads cyclic cells c) (λ k m. ap (reads_outside reads cyclic cells) (same_cell c k m)) cells.keys
    ∙ ap (λ (b : Bool). reads_outside reads cyclic cells c && b) (sym (has_key cells.keys c))

-- ---- a rectangle is searched

-- c is a circular cell of the rectangle outside the cone
abbrev pub IsOutside : BTreeSet ℕ → BTreeSet ℕ → Area → ℕ → Type 0
IsOutside cyclic cells r c = (is_within r c ≡ true) × (contains nat_cmp cyclic c ≡ true) × (contains nat_cmp cells c ≡ false)

-- the search stands at a circular cell of the rectangle, and is not past any outside the cone
abbrev pub IsSearched : BTreeSet ℕ → BTreeSet ℕ → Area → Option ℕ → Type 0
IsSearched cyclic cells r ahead = ((c : ℕ) → IsOutside cyclic cells r c → IsAtOrBefore ahead c) × IfSome ahead (λ d. (is_within r d ≡ true) × (contains nat_cmp cyclic d ≡ true))

hits : (cyclic : BTreeSet ℕ) (r : Area) (from : ℕ) (o : Option ℕ) → IfSome o (IsAhead cyclic r from) → IfSome o (λ d. (is_within r d ≡ true) × (contains nat_cmp cyclic d ≡ true))
hits cyclic r from None h = tt
hits cyclic r from (Some d) h = (h.1, h.2)

pub searched_start : (cyclic cells : BTreeSet ℕ) (r : Area) (found : Option ℕ) → IfSome found (IsAhead cyclic r r.first) → ((c : ℕ) → IsAhead cyclic r r.first c → IsAtOrBefore found c) → IsSearched cyclic cells r found
searched_start cyclic cells r found h f = (λ c o. f c ((within_between r c o.0).0, o.0, o.1), hits cyclic r r.first found h)

pub searched_on : (cyclic cells : BTreeSet ℕ) (r : Area) (cyclic_cell : ℕ) (found : Option ℕ) → contains nat_cmp cells cyclic_cell ≡ true → IfSome found (IsAhead cyclic r (cyclic_cell + 1)) → ((c : ℕ) → IsAhead cyclic r (cyclic_cell + 1) c → IsAtOrBefore found c) →
    IsSearched cyclic cells r (Some cyclic_cell) → IsSearched cyclic cells r found
searched_on cyclic cells r cyclic_cell found i h f s = (λ c o. f c (later c o, o.0, o.1), hits cyclic r (cyclic_cell + 1) found h)
  where
    later : (c : ℕ) → IsOutside cyclic cells r c → cyclic_cell + 1 ≤ c
    later c o = at (s.0 c o)
      where
        other : cyclic_cell ≡ c → ⊥
        other e = clash (contains nat_cmp cells c) (ap (contains nat_cmp cells) (sym e) ∙ i) o.2

        at : cyclic_cell ≤ c → cyclic_cell + 1 ≤ c
        at l = let m = lt_of_le-ne l other in omega (arith, m)

pub fewer_cyclic : (cyclic : BTreeSet ℕ) (r : Area) (cyclic_cell : ℕ) (found : Option ℕ) → is_within r cyclic_cell ≡ true → IfSome found (IsAhead cyclic r (cyclic_cell + 1)) → places_left r found < places_left r (Some cyclic_cell)
fewer_cyclic cyclic r cyclic_cell None w h = let l = (within_between r cyclic_cell w).1 in omega (arith, l)
fewer_cyclic cyclic r cyclic_cell (Some d) w h = let l = (within_between r cyclic_cell w).1 in let m = (within_between r d h.1).1 in omega (arith, l, m, h.0)

pub searched_found : (cyclic cells : BTreeSet ℕ) (r : Area) (cyclic_cell : ℕ) → contains nat_cmp cells cyclic_cell ≡ false → IsSearched cyclic cells r (Some cyclic_cell) → has_cyclic_outside cyclic cells r ≡ true
searched_found cyclic cells r cyclic_cell n s =
    found (λ d. is_within r d && not (contains nat_cmp cells d)) cyclic.keys cyclic_cell (sym (has_key cyclic.keys cyclic_cell) ∙ s.1.1) (and_from (is_within r cyclic_cell) _ s.1.0 (not_from_false (contains nat_cmp cells cyclic_cell) n))

pub searched_none : (cyclic cells : BTreeSet ℕ) (r : Area) → IsSearched cyclic cells r None → has_cyclic_outside cyclic cells r ≡ false
searched_none cyclic cells r s = false_from_ne_true (has_cyclic_outside cyclic cells r) (λ h.
    let x = outside_finds cells cyclic.keys r h in
    s.0 x.0 (x.2, has_key cyclic.keys x.0 ∙ x.1, x.3))
