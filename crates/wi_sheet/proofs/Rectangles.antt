-- The rectangles that a formula reads, their corners, and what of them is read as the sheet stands.
use Rattle.wi_sheet.proofs.Words.{◌≡◌, ℕ, ◌<◌, ◌≤◌, Bool, true, List, Contains, refl, sym, ap, ◌∙◌, subst, inl, inr, ◌⊎◌, Area, place, row_of, column_of, is_within, is_within_one, rect_of, within_parts, sides_of, Reference, Tree, Leaf, cell_leaf, rectangle_leaf, what_if_leaf, leaves, cell_area, leaf_rectangles, rectangles_of, one_cell, reads_within, same_cell, leaf_reads_here, reads_here}
use Rattle.wi_sheet.proofs.Demands.{here_reads}
use Rattle.wi_sheet.proofs.Members.{IsIn, in_contained, of_map, of_flat, found_in}

-- ---- corners

-- a cell in the rectangle with these corners
pub in_corners : (top bottom left right a : ℕ) → left < 16384 → right < 16384 → top ≤ bottom → left ≤ right → is_within (rect_of (place top left) (place bottom right)) a ≡ true → (top ≤ row_of a) × (row_of a ≤ bottom) × (left ≤ column_of a) × (column_of a ≤ right)
in_corners top bottom left right a l r h k m =
    let s = sides_of (rect_of (place top left) (place bottom right)) (place top left) (place bottom right) top left bottom right refl refl refl h k l r in
    let b = within_parts (rect_of (place top left) (place bottom right)) a m in (
      subst (λ (n : ℕ). n ≤ row_of a) s.top b.0,
      subst (λ (n : ℕ). row_of a ≤ n) s.bottom b.1,
      subst (λ (n : ℕ). n ≤ column_of a) s.left b.2,
      subst (λ (n : ℕ). column_of a ≤ n) s.right b.3,
    )

-- ---- a rectangle is of one cell, or each of its cells is read as the sheet stands

abbrev pub IsSingle : Area → Type 0
IsSingle r = (a d : ℕ) → is_within r a ≡ true → is_within r d ≡ true → a ≡ d

-- each cell of the rectangle passes the test, where it has more than one
abbrev pub IsWhole : (ℕ → Bool) → Area → Type 0
IsWhole p r = IsSingle r ⊎ ((d : ℕ) → is_within r d ≡ true → p d ≡ true)

single : (c : ℕ) → IsSingle (cell_area c)
single c a d h k = sym (same_cell a c (sym (one_cell c a) ∙ h)) ∙ same_cell d c (sym (one_cell c d) ∙ k)

more_whole : (p q : ℕ → Bool) → ((d : ℕ) → p d ≡ true → q d ≡ true) → (r : Area) → IsWhole p r → IsWhole q r
more_whole p q k r (inl h) = inl h
more_whole p q k r (inr h) = inr (λ d m. k d (h d m))

-- of a leaf's rectangles
leaf_whole : (l : Leaf) (r : Area) → IsIn (leaf_rectangles l) r → IsWhole (leaf_reads_here l) r
leaf_whole (cell_leaf c) r (inl e) = inl (subst IsSingle e (single c.at))
leaf_whole (cell_leaf c) r (inr i) = absurd i
leaf_whole (rectangle_leaf c) r (inl e) = inr (λ d m. ap (λ (x : Area). is_within x d) e ∙ m)
leaf_whole (rectangle_leaf c) r (inr i) = absurd i
leaf_whole (what_if_leaf f ps) r (inl e) = inl (subst IsSingle e (single f.at))
leaf_whole (what_if_leaf f ps) r (inr i) =
    let x = of_map (λ (p : Reference × Reference). cell_area p.1.at) ps r i in
    inl (subst IsSingle x.2 (single x.0.1.at))

-- and so of a tree's
pub rectangle_whole : (t : Tree) (r : Area) → Contains (rectangles_of t) r → IsWhole (reads_here t) r
rectangle_whole t r h =
    let l = of_flat leaf_rectangles (leaves t) r (in_contained (rectangles_of t) r h) in
    more_whole (leaf_reads_here l.0) (reads_here t) (λ d m. found_in (λ k. leaf_reads_here k d) (leaves t) l.0 l.1 m) r (leaf_whole l.0 r l.2)

-- a cell that is read as the sheet stands is in one of the rectangles
pub in_one_of : (t : Tree) (rs : List Area) (a : ℕ) → rs ≡ rectangles_of t → reads_here t a ≡ true → is_within_one rs a ≡ true
in_one_of t rs a e h = ap (λ (xs : List Area). is_within_one xs a) e ∙ sym (reads_within t a) ∙ here_reads t a h
