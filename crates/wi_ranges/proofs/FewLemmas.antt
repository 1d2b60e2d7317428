-- The readers of one cell: one more, one less, and whether a cell is among them.
use Rattle.wi_ranges.proofs.Words.{◌≡◌, ◌==◌, ℕ, ◌<◌, ◌≤◌, ◌+◌, Bool, true, false, ◌||◌, cond, List, [], ◌∷◌, ◌++◌, length, take, get_or, Option, Some, None, refl, sym, ap, subst, ◌∙◌, arith, nat_lt, unwrap_or, position, position_or_len, swap_remove, IsPermutation, true≢false, or_from, ltb-false, ltb-true, eqb-true, eq-eqb, list_any_more, passes_at_first, fails_before_first, IsPermutation-cons, IsPermutation-trans, IsPermutation-to_front, IsPermutation-middle, IsPermutation-swap_remove, or_assoc, turn_test, is_one_of, has_nowhere}

-- ---- where a cell stands

abbrev is_cell : ℕ → ℕ → Bool
is_cell c x = x == c

pub place_found : (xs : List ℕ) (c : ℕ) (o : Option ℕ) (i d : ℕ) → o ≡ position (is_cell c) xs → o ≡ Some i → get_or xs i d ≡ c
place_found xs c o i d e f = by (nat_lt (position_or_len (is_cell c) xs) (length xs)) refl (sym e ∙ f)
  where
    by : (b : Bool) → nat_lt (position_or_len (is_cell c) xs) (length xs) ≡ b → cond b (Some (position_or_len (is_cell c) xs)) None ≡ Some i → get_or xs i d ≡ c
    by true l s =
        let here = passes_at_first (is_cell c) xs d (ltb-true _ _ l) in
        ap (λ (j : ℕ). get_or xs j d) (sym (ap (λ (p : Option ℕ). unwrap_or p 0) s)) ∙ eqb-true _ c here
    by false l s = let k = s in cc

pub place_none : (xs : List ℕ) (c : ℕ) (o : Option ℕ) → o ≡ position (is_cell c) xs → o ≡ None → is_one_of xs c ≡ false
place_none xs c o e f = by (nat_lt (position_or_len (is_cell c) xs) (length xs)) refl (sym e ∙ f)
  where
    by : (b : Bool) → nat_lt (position_or_len (is_cell c) xs) (length xs) ≡ b → cond b (Some (position_or_len (is_cell c) xs)) None ≡ None → is_one_of xs c ≡ false
    by true l s = let k = s in cc
    by false l s =
        let long : length xs ≤ position_or_len (is_cell c) xs = ltb-false _ _ l in
        has_nowhere xs c (λ k m g. true≢false (sym (eq-eqb _ c g) ∙ fails_before_first (is_cell c) xs k 0 (omega (arith, m, long))))

-- ---- one less

pub first_gone : (c last : ℕ) (old new : List ℕ) → old ≡ new ++ last ∷ [] → IsPermutation (c ∷ old) (c ∷ last ∷ new)
first_gone c last old new e = IsPermutation-cons c old (last ∷ new) (subst (λ (xs : List ℕ). IsPermutation xs (last ∷ new)) (sym e) (IsPermutation-to_front new last))

pub other_gone : (first c i x : ℕ) (old new : List ℕ) → i < length old → x ≡ get_or old i x → x ≡ c → new ≡ swap_remove old i x → IsPermutation (first ∷ old) (c ∷ first ∷ new)
other_gone first c i x old new l e s n =
    let gone : IsPermutation old (c ∷ new) = subst (λ (us : List ℕ). IsPermutation old (c ∷ us)) (sym n)
    (subst (λ (y : ℕ). IsPermutation old (y ∷ swap_remove old i x)) s (IsPermutation-swap_remove old i x l e)) in
    IsPermutation-trans (first ∷ old) (first ∷ c ∷ new) (c ∷ first ∷ new) (IsPermutation-cons first old (c ∷ new) gone) (IsPermutation-middle (first ∷ []) c new)

pub not_there : (first c : ℕ) (others : List ℕ) → (first == c) ≡ false → is_one_of others c ≡ false → is_one_of (first ∷ others) c ≡ false
not_there first c others n h = or_from _ _ n h

-- ---- put into a set

pub one_more_in : (cells : List ℕ) (i x r : ℕ) (old mid new : Bool) → i < length cells → x ≡ get_or cells i x → new ≡ (mid || r == x) → mid ≡ (old || is_one_of (take i cells) r) → new ≡ (old || is_one_of (take (i + 1) cells) r)
one_more_in cells i x r old mid new l e f g =
    f ∙ ap (λ b. b || r == x) g ∙ or_assoc old _ _
    ∙ ap (λ b. old || (is_one_of (take i cells) r || b)) (turn_test r x ∙ ap (λ (y : ℕ). y == r) e)
    ∙ ap (λ b. old || b) (sym (list_any_more (λ y. y == r) cells i x l))
