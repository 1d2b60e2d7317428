-- The cells whose replacement is another, as two walks collect them.
use Rattle.wi_scenarios.proofs.Words.{◌≡◌, ◌==◌, ℕ, ◌+◌, ◌<◌, ◌≤◌, Bool, true, false, not, cond, ◌||◌, ◌&&◌, List, [], ◌∷◌, ◌++◌, map, length, drop, get_or, Option, Some, None, refl, sym, ap, ◌∙◌, subst, arith, false≢true, nat_tests, append-nil, drop_all, list_any-append, Value, Replacement, replaced, same_replacement_Decides, left_more, is_one_of, same_option, differing, AreDiffering, has-filter, append_assoc}

-- ---- a walk

module _ (before after : List Replacement) where
  abbrev same_at : ℕ → Bool
  same_at a = same_option (replaced before a) (replaced after a)

  walk_on : (rs : List Replacement) (i : ℕ) (r : Replacement) (b : Bool) → i < length rs → r ≡ get_or rs i r → b ≡ same_at r.at
      → differing before after (drop i rs) ≡ cond (not b) (r.at ∷ differing before after (drop (i + 1) rs)) (differing before after (drop (i + 1) rs))
  walk_on rs i r b l e t =
      let rest = differing before after (drop (i + 1) rs) in
      ap (differing before after) (left_more rs i r l e) ∙ ap (λ (c : Bool). cond (not c) (r.at ∷ rest) rest) (sym t)

  pub pushed : (cells cells' whole : List ℕ) (rs : List Replacement) (i : ℕ) (r : Replacement) (b : Bool) → i < length rs → r ≡ get_or rs i r → b ≡ same_at r.at
      → b ≡ false → cells' ≡ cells ++ r.at ∷ [] → cells ++ differing before after (drop i rs) ≡ whole
      → cells' ++ differing before after (drop (i + 1) rs) ≡ whole
  pushed cells cells' whole rs i r b l e t n k h =
      let rest = differing before after (drop (i + 1) rs) in
      ap (λ (xs : List ℕ). xs ++ rest) k ∙ append_assoc cells (r.at ∷ []) rest
      ∙ ap (λ (xs : List ℕ). cells ++ xs) (sym (walk_on rs i r b l e t ∙ ap (λ (c : Bool). cond (not c) (r.at ∷ rest) rest) n)) ∙ h

  pub passed : (cells cells' whole : List ℕ) (rs : List Replacement) (i : ℕ) (r : Replacement) (b : Bool) → i < length rs → r ≡ get_or rs i r → b ≡ same_at r.at
      → b ≡ true → cells' ≡ cells → cells ++ differing before after (drop i rs) ≡ whole
      → cells' ++ differing before after (drop (i + 1) rs) ≡ whole
  passed cells cells' whole rs i r b l e t n k h =
      let rest = differing before after (drop (i + 1) rs) in
      ap (λ (xs : List ℕ). xs ++ rest) k
      ∙ ap (λ (xs : List ℕ). cells ++ xs) (sym (walk_on rs i r b l e t ∙ ap (λ (c : Bool). cond (not c) (r.at ∷ rest) rest) n)) ∙ h

  -- at the end nothing is left
  pub walked : (cells : List ℕ) (rs : List Replacement) (i : ℕ) (whole : List ℕ) → length rs ≤ i → cells ++ differing before after (drop i rs) ≡ whole → cells ≡ whole
  walked cells rs i whole l h =
      sym (append-nil cells) ∙ ap (λ (xs : List Replacement). cells ++ differing before after xs) (sym (drop_all i rs l)) ∙ h

  -- ---- what both walks tell

  -- a value in the place of the first cell
  abbrev at_first : Value → Replacement
  at_first v = record { at = 0; value = v }

  same_means : (o p : Option Value) → same_option o p ≡ true → o ≡ p
  same_means None None e = refl
  same_means None (Some w) e = absurd (false≢true e)
  same_means (Some v) None e = absurd (false≢true e)
  same_means (Some v) (Some w) e = ap (λ (r : Replacement). Some r.value) ((same_replacement_Decides (at_first v) (at_first w)).0 e)

  other_means : (o p : Option Value) → same_option o p ≡ false → o ≡ p → ⊥
  other_means None None e same = absurd (false≢true (sym e))
  other_means None (Some w) e same = cc
  other_means (Some v) None e same = cc
  other_means (Some v) (Some w) e same =
      let one : v ≡ w = cc in absurd (false≢true (sym e ∙ (same_replacement_Decides (at_first v) (at_first w)).1 (ap at_first one)))

  -- a cell for which no replacement stands is replaced by none
  not_among : (rs : List Replacement) (a : ℕ) → is_one_of (map (λ (r : Replacement). r.at) rs) a ≡ false → replaced rs a ≡ None
  not_among [] a h = refl
  not_among (r ∷ rs) a h = grind (arith, nat_tests, not_among rs a)

  abbrev both : List ℕ
  both = differing before after before ++ differing before after after

  in_both : (a : ℕ) → is_one_of both a
      ≡ ((is_one_of (map (λ (r : Replacement). r.at) before) a && not (same_at a)) || (is_one_of (map (λ (r : Replacement). r.at) after) a && not (same_at a)))
  in_both a =
      list_any-append (λ x. x == a) (differing before after before) (differing before after after)
      ∙ ap (λ (b : Bool). b || is_one_of (differing before after after) a) (has-filter (λ x. not (same_at x)) (map (λ (r : Replacement). r.at) before) a)
      ∙ ap (λ (b : Bool). (is_one_of (map (λ (r : Replacement). r.at) before) a && not (same_at a)) || b) (has-filter (λ x. not (same_at x)) (map (λ (r : Replacement). r.at) after) a)

  found_in_both : AreDiffering before after both
  found_in_both = record {
    each = λ a h. other_means (replaced before a) (replaced after a) (differs (is_one_of (map (λ (r : Replacement). r.at) before) a) (is_one_of (map (λ (r : Replacement). r.at) after) a) (same_at a) (sym (in_both a) ∙ h));
    others = λ a h. by_places a (is_one_of (map (λ (r : Replacement). r.at) before) a) refl (is_one_of (map (λ (r : Replacement). r.at) after) a) refl (same_at a) refl (sym (in_both a) ∙ h);
  }
    where
      differs : (x y b : Bool) → ((x && not b) || (y && not b)) ≡ true → b ≡ false
      differs true true true h = cc
      differs true false true h = cc
      differs false true true h = cc
      differs false false true h = cc
      differs x y false h = refl

      by_places : (a : ℕ) (x : Bool) → is_one_of (map (λ (r : Replacement). r.at) before) a ≡ x → (y : Bool) → is_one_of (map (λ (r : Replacement). r.at) after) a ≡ y → (b : Bool) → same_at a ≡ b
          → ((x && not b) || (y && not b)) ≡ false → replaced before a ≡ replaced after a
      by_places a x p y q true s h = same_means (replaced before a) (replaced after a) s
      by_places a false p false q false s h = not_among before a p ∙ sym (not_among after a q)
      by_places a true p y q false s h = absurd (false≢true (sym h))
      by_places a false p true q false s h = absurd (false≢true (sym h))

  pub both_found : (none first second : List ℕ) → none ≡ [] → first ≡ none ++ differing before after before → second ≡ first ++ differing before after after
      → AreDiffering before after second
  both_found none first second empty h k =
      subst (AreDiffering before after) (sym (k ∙ ap (λ (xs : List ℕ). xs ++ differing before after after) (h ∙ ap (λ (xs : List ℕ). xs ++ differing before after before) empty))) found_in_both
