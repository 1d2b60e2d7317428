-- A tree reads exactly the cells of its rectangles.
use Rattle.wi_parser.proofs.Words.{◌≡◌, ◌==◌, ℕ, ◌||◌, Bool, true, false, List, [], ◌∷◌, map, min, max, refl, ap, ap₂, sym, ◌∙◌, arith, list_any, flat_map, or-false, false_from_ne_true, eqb-true, nat_tests, list_any-append, Area, place, row_of, column_of, is_within, is_within_one, is_itself, within_between, Reference, Tree, Leaf, cell_leaf, rectangle_leaf, what_if_leaf, leaves, cell_area, area_of, leaf_reads, reads, leaf_rectangles, rectangles_of}
use Rattle.std.specs.Prelude.{nat_le}

-- the area of two equal corners
abbrev at_once : ℕ → Area
at_once r = record { first = r; last = r }

cell_at_once : (r : ℕ) → cell_area r ≡ at_once r
cell_at_once r =
    let first : place (min (row_of r) (row_of r)) (min (column_of r) (column_of r)) ≡ r = omega arith in
    let last : place (max (row_of r) (row_of r)) (max (column_of r) (column_of r)) ≡ r = omega arith in
    cc

nat_le-same : (n : ℕ) → nat_le n n ≡ true
nat_le-same n = grind (arith, nat_tests)

within_itself : (a : ℕ) → is_within (at_once a) a ≡ true
within_itself a = simp nat_le-same

within_means : (r a : ℕ) → is_within (at_once r) a ≡ true → r ≡ a
within_means r a h = let between = within_between (at_once r) a h in omega (arith, between.0, between.1)

-- in the rectangle of one cell is that cell alone
pub one_cell : (r a : ℕ) → is_within (cell_area r) a ≡ (r == a)
one_cell r a = ap (λ (x : Area). is_within x a) (cell_at_once r) ∙ by (r == a) refl
  where
    by : (b : Bool) → (r == a) ≡ b → is_within (at_once r) a ≡ b
    by true h = ap (λ (x : ℕ). is_within (at_once x) a) (eqb-true r a h) ∙ within_itself a
    by false h = false_from_ne_true (is_within (at_once r) a) (λ w. let e = ap (λ (x : ℕ). x == a) (within_means r a w) ∙ is_itself a in cc)

replacement_cells : (ps : List (Reference × Reference)) (a : ℕ) → list_any (λ (p : Reference × Reference). p.1.at == a) ps ≡ is_within_one (map (λ (p : Reference × Reference). cell_area p.1.at) ps) a
replacement_cells [] a = refl
replacement_cells (p ∷ ps) a =
    ap (λ (b : Bool). b || list_any (λ (p : Reference × Reference). p.1.at == a) ps) (sym (one_cell p.1.at a))
    ∙ ap (λ (b : Bool). is_within (cell_area p.1.at) a || b) (replacement_cells ps a)

-- a leaf reads exactly the cells of its rectangles
leaf_within : (l : Leaf) (a : ℕ) → leaf_reads l a ≡ is_within_one (leaf_rectangles l) a
leaf_within (cell_leaf r) a = sym (or-false (is_within (cell_area r.at) a) ∙ one_cell r.at a)
leaf_within (rectangle_leaf c) a = sym (or-false (is_within (area_of c) a))
leaf_within (what_if_leaf f ps) a =
    ap (λ (b : Bool). b || list_any (λ (p : Reference × Reference). p.1.at == a) ps) (sym (one_cell f.at a))
    ∙ ap (λ (b : Bool). is_within (cell_area f.at) a || b) (replacement_cells ps a)

leaves_within : (ls : List Leaf) (a : ℕ) → list_any (λ l. leaf_reads l a) ls ≡ is_within_one (flat_map leaf_rectangles ls) a
leaves_within [] a = refl
leaves_within (l ∷ ls) a =
    ap₂ (λ (b c : Bool). b || c) (leaf_within l a) (leaves_within ls a)
    ∙ sym (list_any-append (λ (r : Area). is_within r a) (leaf_rectangles l) (flat_map leaf_rectangles ls))

pub reads_within : (t : Tree) (a : ℕ) → reads t a ≡ is_within_one (rectangles_of t) a
reads_within t a = leaves_within (leaves t) a
