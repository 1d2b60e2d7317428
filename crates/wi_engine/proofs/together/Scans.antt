-- The cells that are found together with one, and the scan that they make.
use Rattle.wi_engine.proofs.Words.{◌≡◌, ◌==◌, ◌-◌, ◌≤◌, ◌*◌, ℕ, ◌||◌, Bool, true, false, List, ◌∷◌, filter, take, Some, Contains, refl, ap, sym, ◌∙◌, subst, inl, inr, ◌⊎◌, eq-eqb, arith, and_parts, or_left, keys_of, Area, row_of, column_of, is_within, Replacement, Tree, Sheet, content_of, has_formula, put_all, rectangles_of, one_cell, is_one_of, same_cell, reads_here, cells_after, is_after, put_formula, IsWhole, rectangle_whole, in_corners, lacks_cell, lacking_after, IsSmallestWith, AreTogether, IsScanTo, is_next, part, Scan, Way, Alone, Row, Column, Whole, Findings, Frame, column_within, within_from, within_parts, has_taken, has-filter}

-- ---- the parts of a rectangle through which ways lead lie in it

-- each part that holds a cell of the rectangle lies in it
pub part_within : (r : Area) (way : Way) (a d : ℕ) → is_within r a ≡ true → is_within (part r way a) d ≡ true → is_within r d ≡ true
part_within r Alone a d h m = ap (is_within r) (sym (same_cell d a (sym (one_cell a d) ∙ m))) ∙ h
part_within r Row a d h m =
    let at = within_parts r a h in
    let b = in_corners (row_of a) (row_of a) (column_of r.first) (column_of r.last) d (column_within r.first) (column_within r.last) (omega arith) (omega (arith, at.2, at.3)) m in
    within_from r d (omega (arith, at.0, b.0)) (omega (arith, at.1, b.1)) b.2 b.3
part_within r Column a d h m =
    let at = within_parts r a h in
    let b = in_corners (row_of r.first) (row_of r.last) (column_of a) (column_of a) d (column_within a) (column_within a) (omega (arith, at.0, at.1)) (omega arith) m in
    within_from r d b.0 b.1 (omega (arith, at.2, b.2)) (omega (arith, at.3, b.3))
part_within r Whole a d h m = m

-- ---- a scan that is led on with the next cell that is lacking

pub led_to : (s : Sheet) (f : Frame) (a : ℕ) (old c : Scan) (way : Way) → Contains f.scans.items old → c.rectangle ≡ old.rectangle → c.way ≡ way → (c.count ≤ 1) ⊎ (c.count ≤ 2 * old.count) →
    is_next s f old way a ≡ true → IsScanTo s f a c
led_to s f a old c way one same is (inl alone) next = inl alone
led_to s f a old c way one same is (inr twice) next = inr (old, record { one_of = one; rectangle = sym same; twice = twice; next = inl (rw is next) })

-- a cell that comes after one in a rectangle, and has a formula
comes_after : (s : Sheet) (w : List Replacement) (f : Findings) (r : Area) (a d : ℕ) → is_one_of (lacking_after s w f r a) d ≡ true → (is_within r d ≡ true) × (has_formula (content_of s d) ≡ true)
comes_after s w f r a d h =
    let lacked = and_parts (is_one_of (cells_after s r (Some a)) d) _ (sym (has-filter (lacks_cell s w f) (cells_after s r (Some a)) d) ∙ h) in
    let after = and_parts (is_one_of (filter (is_within r) (keys_of s)) d) _ (sym (has-filter (is_after (Some a)) (filter (is_within r) (keys_of s)) d) ∙ lacked.0) in
    let inside = and_parts (is_one_of (keys_of s) d) _ (sym (has-filter (is_within r) (keys_of s) d) ∙ after.0) in
    (inside.1, put_formula s w d (and_parts (has_formula (content_of (put_all s w) d)) _ lacked.1).0)

-- ---- a cell, and those that are lacking after it in a part of the rectangle

-- it is one of them
pub among_them : (cells others : List ℕ) (a : ℕ) → cells ≡ a ∷ others → is_one_of cells a ≡ true
among_them cells others a f = ap (λ (xs : List ℕ). is_one_of xs a) f ∙ or_left (a == a) _ (eq-eqb a a refl)

-- each of them has a formula, and is read here
pub they_are_read : (s : Sheet) (w : List Replacement) (f : Findings) (t : Tree) (rs : List Area) (r area : Area) (way : Way) (cells : List ℕ) (a more : ℕ) → rs ≡ rectangles_of t → IsSmallestWith rs a r →
    area ≡ part r way a → cells ≡ a ∷ take more (lacking_after s w f area a) → reads_here t a ≡ true → has_formula (content_of s a) ≡ true → (d : ℕ) → is_one_of cells d ≡ true →
    (reads_here t d ≡ true) × (has_formula (content_of s d) ≡ true)
they_are_read s w f t rs r area way cells a more e k p i h g d m = by (a == d) refl (sym (ap (λ (xs : List ℕ). is_one_of xs d) i) ∙ m)
  where
    beside : IsWhole (reads_here t) r → is_within r d ≡ true → reads_here t d ≡ true
    beside (inl single) inside = ap (reads_here t) (single d a inside k.holds) ∙ h
    beside (inr whole) inside = whole d inside

    by : (b : Bool) → (a == d) ≡ b → (b || is_one_of (take more (lacking_after s w f area a)) d) ≡ true → (reads_here t d ≡ true) × (has_formula (content_of s d) ≡ true)
    by true same l =
        let is : a ≡ d = same_cell d a same in
        (ap (reads_here t) (sym is) ∙ h, ap (λ (c : ℕ). has_formula (content_of s c)) (sym is) ∙ g)
    by false same l =
        let there = comes_after s w f area a d (has_taken (lacking_after s w f area a) more d l) in
        (beside (rectangle_whole t r (subst (λ (xs : List Area). Contains xs r) e k.one_of)) (part_within r way a d k.holds (sym (ap (λ (x : Area). is_within x d) p) ∙ there.0)), there.1)

-- they are of one rectangle
pub of_rectangle : (s : Sheet) (f : Frame) (t : Tree) (rs : List Area) (r area : Area) (cells : List ℕ) (a : ℕ) (c scan : Scan) → rs ≡ rectangles_of t → IsSmallestWith rs a r → scan.rectangle ≡ r →
    area ≡ part r scan.way a → cells ≡ a ∷ take (scan.count - 1) (lacking_after s f.key.world f.found area a) → IsScanTo s f a scan →
    c.rectangle ≡ scan.rectangle → c.way ≡ scan.way → c.count ≡ scan.count → AreTogether s f t a c cells
of_rectangle s f t rs r area cells a c scan e k same p i to x y z = record {
  smallest = subst (λ (q : Area). IsSmallestWith (rectangles_of t) a q) (sym (x ∙ same)) (subst (λ (xs : List Area). IsSmallestWith xs a r) e k);
  cells = i ∙ rw (p, x, same, y, z) refl;
  count = led_by to;
}
  where
    led_by : IsScanTo s f a scan → IsScanTo s f a c
    led_by (inl l) = inl (rw z l)
    led_by (inr h) = inr (h.0, record { one_of = h.1.one_of; rectangle = h.1.rectangle ∙ sym x; twice = rw z h.1.twice; next = rw y h.1.next })
