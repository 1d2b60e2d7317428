-- One value more is found, and fewer are lacking.
use Rattle.wi_engine.proofs.Words.{◌≡◌, ◌==◌, ℕ, ◌+◌, ◌<◌, ◌≤◌, Bool, true, false, ◌&&◌, cond, List, filter, length, Option, Some, None, refl, ap, sym, ◌∙◌, arith, eq-eqb, and_from, and_parts, list_any, is_none, option_or, Value, Tree, Sheet, content_of, has_formula, cells_with_formula, TreeAsks, WhatIf, list_any-both, same_cell, found, formula_cell, keeps_few, reads_here, formulas_read_here, what_ifs_of, asked_what_if, in_contained, found_in, Findings, FoundWhatIf, same_pairs, pairs_of, first_for, found_value, found_what_ifs, what_if_found, IsWithCell, IsWithWhatIf, lacking, PassesToo, no_more, fewer}
use Rattle.wi_engine.proofs.lists.FoundPairs.{same_lists, same_pairs-refl, first_for-push}

-- a cell of which no value was found
abbrev unfound_cell : Findings → ℕ → Bool
unfound_cell f c = is_none (found_value f c)

-- a what-if of which no value was found
abbrev unfound_what_if : Findings → ℕ × List (ℕ × ℕ) → Bool
unfound_what_if f x = is_none (what_if_found f x.0 x.1)

-- ---- how many at most

pub lacking_at_most : (s : Sheet) (t : Tree) (f : Findings) → lacking s t f ≤ length (formulas_read_here s t) + length (what_ifs_of t)
lacking_at_most s t f =
    let cells = keeps_few (unfound_cell f) (formulas_read_here s t) in
    let what_ifs = keeps_few (unfound_what_if f) (what_ifs_of t) in
    omega arith

-- ---- a cell's value more

module _ (f g : Findings) (a : ℕ) (v : Value) (more : IsWithCell f g a v) where
  cell_unfound : PassesToo (unfound_cell f) (unfound_cell g)
  cell_unfound c h = by (a == c) (sym (ap (λ (o : Option Value). is_none o) (more.cells c)) ∙ h)
    where
      by : (b : Bool) → is_none (cond b (Some v) (found_value f c)) ≡ true → is_none (found_value f c) ≡ true
      by true k = cc
      by false k = k

  same_what_ifs : (t : Tree) → length (filter (unfound_what_if g) (what_ifs_of t)) ≡ length (filter (unfound_what_if f) (what_ifs_of t))
  same_what_ifs t = ap (λ (fs : List FoundWhatIf). length (filter (λ (x : ℕ × List (ℕ × ℕ)). is_none (first_for fs x.0 x.1)) (what_ifs_of t))) more.what_ifs

  cell_gone : found_value f a ≡ None → (c : ℕ) → (c == a) ≡ true → (unfound_cell f c ≡ true) × (unfound_cell g c ≡ false)
  cell_gone e c h =
      let is = same_cell a c h in (
        ap (unfound_cell f) is ∙ ap (λ (o : Option Value). is_none o) e,
        ap (unfound_cell g) is ∙ ap (λ (o : Option Value). is_none o) (more.cells a) ∙ ap (λ (b : Bool). is_none (cond b (Some v) (found_value f a))) (eq-eqb a a refl),
      )

  -- of a cell with a formula that the tree reads as the sheet stands, and that had none, fewer are lacking
  pub cell_lacks_fewer : (s : Sheet) (t : Tree) → reads_here t a ≡ true → has_formula (content_of s a) ≡ true → found_value f a ≡ None → lacking s t g < lacking s t f
  cell_lacks_fewer s t r h e =
      let listed =
      sym (list_any-both (λ (x : ℕ). x == a) (reads_here t) (cells_with_formula s))
      ∙ found (λ (x : ℕ). x == a && reads_here t x) (cells_with_formula s) a (formula_cell s a h) (and_from (a == a) _ (eq-eqb a a refl) r) in
      let cells = fewer (unfound_cell f) (unfound_cell g) cell_unfound (λ c. c == a) (cell_gone e) (formulas_read_here s t) listed in
      let what_ifs = same_what_ifs t in
      omega arith

-- ---- a what-if's value more

-- this what-if
abbrev is_what_if : FoundWhatIf → ℕ × List (ℕ × ℕ) → Bool
is_what_if x y = x.at == y.0 && same_pairs (pairs_of x) y.1

asked_found : (t : Tree) (x : FoundWhatIf) → TreeAsks t (WhatIf x.at x.pairs) → list_any (is_what_if x) (what_ifs_of t) ≡ true
asked_found t x h =
    let same = and_from (x.at == x.at) _ (eq-eqb x.at x.at refl) (same_pairs-refl (pairs_of x)) in
    found_in (is_what_if x) (what_ifs_of t) (x.at, pairs_of x) (in_contained (what_ifs_of t) (x.at, pairs_of x) (asked_what_if t x.at x.pairs h)) same

module _ (f g : Findings) (x : FoundWhatIf) (more : IsWithWhatIf f g x) where
  what_if_unfound : PassesToo (unfound_what_if f) (unfound_what_if g)
  what_if_unfound y h = by (first_for (found_what_ifs f) y.0 y.1) (sym (ap (λ (fs : List FoundWhatIf). is_none (first_for fs y.0 y.1)) more.what_ifs ∙ ap (λ (o : Option Value). is_none o) (first_for-push (found_what_ifs f) x y.0 y.1)) ∙ h)
    where
      by : (o : Option Value) → is_none (option_or o (cond (is_what_if x y) (Some x.value) None)) ≡ true → is_none o ≡ true
      by None k = refl
      by (Some w) k = k

  fewer_cells : (xs : List ℕ) → length (filter (unfound_cell g) xs) ≤ length (filter (unfound_cell f) xs)
  fewer_cells xs = no_more (unfound_cell f) (unfound_cell g) (λ c h. sym (ap (λ (o : Option Value). is_none o) (more.cells c)) ∙ h) xs

  what_if_gone : what_if_found f x.at (pairs_of x) ≡ None → (y : ℕ × List (ℕ × ℕ)) → is_what_if x y ≡ true → (unfound_what_if f y ≡ true) × (unfound_what_if g y ≡ false)
  what_if_gone e y h =
      let parts = and_parts (x.at == y.0) _ h in
      let there : what_if_found f y.0 y.1 ≡ None =
      ap (λ (n : ℕ). what_if_found f n y.1) (sym (same_cell y.0 x.at parts.0)) ∙ ap (what_if_found f x.at) (sym (same_lists (pairs_of x) y.1 parts.1)) ∙ e in
      let now : what_if_found g y.0 y.1 ≡ Some x.value =
      ap (λ (fs : List FoundWhatIf). first_for fs y.0 y.1) more.what_ifs ∙ first_for-push (found_what_ifs f) x y.0 y.1
      ∙ ap (λ (o : Option Value). option_or o (cond (is_what_if x y) (Some x.value) None)) there ∙ ap (λ (b : Bool). cond b (Some x.value) None) h in
      (ap (λ (o : Option Value). is_none o) there, ap (λ (o : Option Value). is_none o) now)

  -- of one that the tree asks for, and that had none, fewer are lacking
  pub what_if_lacks_fewer : (s : Sheet) (t : Tree) → TreeAsks t (WhatIf x.at x.pairs) → what_if_found f x.at (pairs_of x) ≡ None → lacking s t g < lacking s t f
  what_if_lacks_fewer s t asks e =
      let cells = fewer_cells (formulas_read_here s t) in
      let what_ifs = fewer (unfound_what_if f) (unfound_what_if g) what_if_unfound (is_what_if x) (what_if_gone e) (what_ifs_of t) (asked_found t x asks) in
      omega arith
