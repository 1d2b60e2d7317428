-- What an evaluation asks for is demanded.
use Rattle.wi_sheet.proofs.Words.{◌≡◌, ◌==◌, ◌||◌, inl, inr, ℕ, Bool, true, false, List, [], ◌∷◌, map, Some, Contains, refl, ap, sym, ◌∙◌, eq-eqb, list_any, Vec, Replacement, Pair, Reference, Formula, Tree, Leaf, cell_leaf, rectangle_leaf, what_if_leaf, leaves, pair_of, Sheet, content_of, put_all, has_formula, cells_with_formula, addresses, LeafAsks, TreeAsks, Cell, WhatIf, is_one_of, same_cell, formula_cell, Case, reaching, case_of, with_what_if, leaf_what_ifs, what_ifs_of, leaf_reads_here, reads_here, formulas_read_here, precedent_cases, RestsOn}
use Rattle.wi_sheet.proofs.Bounds.{put_formula}
use Rattle.wi_sheet.proofs.Members.{IsIn, in_contained, contains_in, in_left, in_right, in_map, in_flat, of_flat, in_filter, of_any, found_in}
use Rattle.wi_sheet.proofs.Meanings.{replacement_cells}

-- ---- what is read is below

pub is_in : (xs : List ℕ) (a : ℕ) → is_one_of xs a ≡ true → IsIn xs a
is_in [] a h = cc
is_in (x ∷ xs) a h = at (x == a) refl h (is_in xs a)
  where
    at : (b : Bool) → (x == a) ≡ b → (b || is_one_of xs a) ≡ true → (is_one_of xs a ≡ true → IsIn xs a) → IsIn (x ∷ xs) a
    at true e h ih = inl (same_cell a x e)
    at false e h ih = inr (ih h)

-- a formula's value rests on each cell with a formula that it reads as the sheet stands
pub read_is_below : (s : Sheet) (w : List Replacement) (t : Tree) (d : ℕ) → reads_here t d ≡ true → has_formula (content_of s d) ≡ true → Contains (precedent_cases s w t) (case_of s w d)
read_is_below s w t d h f =
    let m = in_filter (reads_here t) (cells_with_formula s) d (is_in (cells_with_formula s) d (formula_cell s d f)) h in
    contains_in (precedent_cases s w t) (case_of s w d) (in_left (map (case_of s w) (formulas_read_here s t)) _ (case_of s w d) (in_map (case_of s w) (formulas_read_here s t) d m))

-- and on the formula cell of each of its what-ifs, with the replacements of that what-if put in
pub what_if_is_below : (s : Sheet) (w : List Replacement) (t : Tree) (x : ℕ × List (ℕ × ℕ)) → Contains (what_ifs_of t) x → Contains (precedent_cases s w t) (case_of s (with_what_if s w x.1) x.0)
what_if_is_below s w t x h =
    let inner : ℕ × List (ℕ × ℕ) → Case = λ y. case_of s (with_what_if s w y.1) y.0 in
    contains_in (precedent_cases s w t) (inner x) (in_right (map (case_of s w) (formulas_read_here s t)) (map inner (what_ifs_of t)) (inner x) (in_map inner (what_ifs_of t) x (in_contained (what_ifs_of t) x h)))

-- a case rests on that of each cell that its formula reads as the sheet stands, where that has a formula too
pub rests_on_read : (s : Sheet) (k : Case) (t : Tree) (d : ℕ) → content_of (put_all s k.1) k.0 ≡ Some (Formula t) → reads_here t d ≡ true →
    has_formula (content_of (put_all s (reaching s d k.1)) d) ≡ true → RestsOn s k (case_of s k.1 d)
rests_on_read s k t d e h f = record {
  tree = t;
  is = e;
  asks = read_is_below s k.1 t d h (put_formula s (reaching s d k.1) d f);
  formula = f;
}

-- and on that of each formula cell of its what-ifs
pub rests_on_what_if : (s : Sheet) (k : Case) (t : Tree) (x : ℕ × List (ℕ × ℕ)) → content_of (put_all s k.1) k.0 ≡ Some (Formula t) → Contains (what_ifs_of t) x →
    has_formula (content_of (put_all s (reaching s x.0 (with_what_if s k.1 x.1))) x.0) ≡ true → RestsOn s k (case_of s (with_what_if s k.1 x.1) x.0)
rests_on_what_if s k t x e h f = record {
  tree = t;
  is = e;
  asks = what_if_is_below s k.1 t x h;
  formula = f;
}

-- ---- what an evaluation asks for

wanted_cell : (b a : ℕ) → a ≡ b → (b == a) ≡ true
wanted_cell b a e = eq-eqb b a (sym e)

leaf_asked_cell : (l : Leaf) (a : ℕ) → LeafAsks l (Cell a) → leaf_reads_here l a ≡ true
leaf_asked_cell (cell_leaf r) a h = wanted_cell r.at a h
leaf_asked_cell (rectangle_leaf c) a h = h
leaf_asked_cell (what_if_leaf f ps) a h = absurd h

-- a cell that is asked for is read as the sheet stands
pub asked_cell : (t : Tree) (a : ℕ) → TreeAsks t (Cell a) → reads_here t a ≡ true
asked_cell t a h =
    let l = of_any (λ k. LeafAsks k (Cell a)) (leaves t) h in
    found_in (λ k. leaf_reads_here k a) (leaves t) l.0 l.1 (leaf_asked_cell l.0 a l.2)

-- a what-if as the list of a tree's what-ifs has it
abbrev pub named : ℕ → List (Reference × Reference) → ℕ × List (ℕ × ℕ)
named f ps = (f, map addresses ps)

leaf_asked : (l : Leaf) (f : ℕ) (pairs : Vec Pair) → LeafAsks l (WhatIf f pairs) → IsIn (leaf_what_ifs l) (named f (map pair_of pairs.items))
leaf_asked (cell_leaf r) f pairs h = absurd h
leaf_asked (rectangle_leaf c) f pairs h = absurd h
leaf_asked (what_if_leaf g qs) f pairs h = inl (ap (λ (n : ℕ). named n qs) (sym h.0) ∙ ap (named f) (sym h.1))

wanted_in : (t : Tree) (f : ℕ) (pairs : Vec Pair) → TreeAsks t (WhatIf f pairs) → IsIn (what_ifs_of t) (named f (map pair_of pairs.items))
wanted_in t f pairs h =
    let l = of_any (λ k. LeafAsks k (WhatIf f pairs)) (leaves t) h in
    in_flat leaf_what_ifs (leaves t) l.0 (named f (map pair_of pairs.items)) l.1 (leaf_asked l.0 f pairs l.2)

abbrev replaces_by : ℕ × List (ℕ × ℕ) → ℕ → Bool
replaces_by x a = list_any (λ p. p.1 == a) x.1

leaf_replacing : (l : Leaf) (x : ℕ × List (ℕ × ℕ)) (a : ℕ) → IsIn (leaf_what_ifs l) x → replaces_by x a ≡ true → leaf_reads_here l a ≡ true
leaf_replacing (what_if_leaf f ps) x a (inl e) h = sym (replacement_cells ps a) ∙ ap (λ (y : ℕ × List (ℕ × ℕ)). replaces_by y a) e ∙ h
leaf_replacing (what_if_leaf f ps) x a (inr i) h = absurd i
leaf_replacing l x a i h = absurd i

-- the replacement cells of a tree's what-ifs are read as the sheet stands
pub replacing_read : (t : Tree) (x : ℕ × List (ℕ × ℕ)) (a : ℕ) → IsIn (what_ifs_of t) x → replaces_by x a ≡ true → reads_here t a ≡ true
replacing_read t x a i h =
    let l = of_flat leaf_what_ifs (leaves t) x i in
    found_in (λ k. leaf_reads_here k a) (leaves t) l.0 l.1 (leaf_replacing l.0 x a l.2 h)

-- a what-if that is asked for is one of the tree's
pub asked_what_if : (t : Tree) (f : ℕ) (pairs : Vec Pair) → TreeAsks t (WhatIf f pairs) → Contains (what_ifs_of t) (f, map addresses (map pair_of pairs.items))
asked_what_if t f pairs h = contains_in (what_ifs_of t) (named f (map pair_of pairs.items)) (wanted_in t f pairs h)

-- and each of its replacement cells is read as the sheet stands
pub asked_replacing : (t : Tree) (f : ℕ) (pairs : Vec Pair) (a : ℕ) → TreeAsks t (WhatIf f pairs) → list_any (λ p. p.1.at == a) (map pair_of pairs.items) ≡ true → reads_here t a ≡ true
asked_replacing t f pairs a h m =
    replacing_read t (named f (map pair_of pairs.items)) a (wanted_in t f pairs h) (replacement_cells (map pair_of pairs.items) a ∙ m)
