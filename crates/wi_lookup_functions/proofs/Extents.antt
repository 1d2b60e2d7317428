-- Rectangles of one size, cell by cell.
use Rattle.wi_lookup_functions.proofs.Words.{◌≡◌, ℕ, zero, suc, ◌<◌, ◌≤◌, ◌-◌, ◌+◌, ◌==◌, true, List, ◌∷◌, ◌++◌, map, refl, sym, ap, ◌∙◌, arith, and_parts, and_from, eqb-true, le-leb, map-append, mod-lt, Area, is_within, cells_of, place, row_of, column_of, within_parts, block, run, same_extent, same_place}

-- where a cell of a rectangle stands
pub record StandsIn (r : Area) (c : ℕ) : Type 0 where
  pub top : row_of r.first ≤ row_of c
  pub bottom : row_of c ≤ row_of r.last
  pub left : column_of r.first ≤ column_of c
  pub right : column_of c ≤ column_of r.last

stands_in : (r : Area) (c : ℕ) → is_within r c ≡ true → StandsIn r c
stands_in r c h = let p = within_parts r c h in record { top = p.0; bottom = p.1; left = p.2; right = p.3 }

-- the two have so many rows and columns
pub record SameExtent (r s : Area) : Type 0 where
  pub heights : (row_of r.last + 1) - row_of r.first ≡ (row_of s.last + 1) - row_of s.first
  pub widths : (column_of r.last + 1) - column_of r.first ≡ (column_of s.last + 1) - column_of s.first

pub sizes : (r s : Area) → same_extent r s ≡ true → SameExtent r s
sizes r s h =
    let p = and_parts (((row_of r.last + 1) - row_of r.first) == ((row_of s.last + 1) - row_of s.first)) (((column_of r.last + 1) - column_of r.first) == ((column_of s.last + 1) - column_of s.first)) h in
    record { heights = eqb-true ((row_of r.last + 1) - row_of r.first) ((row_of s.last + 1) - row_of s.first) p.0; widths = eqb-true ((column_of r.last + 1) - column_of r.first) ((column_of s.last + 1) - column_of s.first) p.1 }

-- the cell at the same place stands in the other
pub record StandsInOther (r s : Area) (c : ℕ) : Type 0 where
  pub top : row_of r.first ≤ row_of c
  pub left : column_of r.first ≤ column_of c
  pub bottom : row_of s.first + (row_of c - row_of r.first) ≤ row_of s.last
  pub right : column_of s.first + (column_of c - column_of r.first) ≤ column_of s.last
  pub narrow : column_of s.last < 16384

pub within_other : (r s : Area) (c : ℕ) → is_within r c ≡ true → same_extent r s ≡ true → StandsInOther r s c
within_other r s c h k =
    let p = stands_in r c h in
    let q = sizes r s k in
    record { top = p.top; left = p.left; bottom = omega (arith, p.top, p.bottom, q.heights); right = omega (arith, p.left, p.right, q.widths); narrow = mod-lt s.last (omega arith) }

pub same_place_inside : (r s : Area) (c : ℕ) → is_within r c ≡ true → same_extent r s ≡ true → is_within s (same_place r s c) ≡ true
same_place_inside r s c h k =
    let p = within_other r s c h k in
    let row_is : row_of (same_place r s c) ≡ row_of s.first + (row_of c - row_of r.first) = omega (arith, p.narrow, p.right) in
    let column_is : column_of (same_place r s c) ≡ column_of s.first + (column_of c - column_of r.first) = omega (arith, p.narrow, p.right) in
    rw (row_is, column_is) (and_from _ _ (and_from _ _ (le-leb _ _ (omega arith)) (le-leb _ _ p.bottom)) (and_from _ _ (le-leb _ _ (omega arith)) (le-leb _ _ p.right)))

-- rectangles with one corner have each cell at its own place
pub same_place_itself : (r s : Area) (c : ℕ) → is_within r c ≡ true → r.first ≡ s.first → same_place r s c ≡ c
same_place_itself r s c h e =
    let p = stands_in r c h in
    let row_is : row_of r.first + (row_of c - row_of r.first) ≡ row_of c = omega (arith, p.top) in
    let column_is : column_of r.first + (column_of c - column_of r.first) ≡ column_of c = omega (arith, p.left) in
    ap (λ (d : ℕ). place (row_of d + (row_of c - row_of r.first)) (column_of d + (column_of c - column_of r.first))) (sym e)
    ∙ rw (row_is, column_is) (omega arith)

-- ---- one row, and rows

-- the same rows and columns, counted from the corners of each
module _ (r s : Area) where
  moved : (row at_row a at_column : ℕ) → row_of r.first ≤ row → at_row ≡ row_of s.first + (row - row_of r.first) → column_of r.first ≤ a → at_column ≡ column_of s.first + (a - column_of r.first) → a < 16384 → same_place r s (place row a) ≡ place at_row at_column
  moved row at_row a at_column h k l m w =
      let row_is : row_of (place row a) ≡ row = omega (arith, w) in
      let column_is : column_of (place row a) ≡ a = omega (arith, w) in
      rw (row_is, column_is) (omega (arith, k, m))

  run_moved : (row at_row a at_column n : ℕ) → row_of r.first ≤ row → at_row ≡ row_of s.first + (row - row_of r.first) → column_of r.first ≤ a → at_column ≡ column_of s.first + (a - column_of r.first) → a + n ≤ 16384 → run at_row at_column n ≡ map (same_place r s) (run row a n)
  run_moved row at_row a at_column zero h k l m w = refl
  run_moved row at_row a at_column (suc n) h k l m w =
      ap (λ (c : ℕ). c ∷ run at_row (at_column + 1) n) (sym (moved row at_row a at_column h k l m (omega (arith, w))))
      ∙ ap (λ (cs : List ℕ). same_place r s (place row a) ∷ cs) (run_moved row at_row (a + 1) (at_column + 1) n h k (omega (arith, l)) (omega (arith, l, m)) (omega (arith, w)))

  block_moved : (row at_row h a at_column n : ℕ) → row_of r.first ≤ row → at_row ≡ row_of s.first + (row - row_of r.first) → column_of r.first ≤ a → at_column ≡ column_of s.first + (a - column_of r.first) → a + n ≤ 16384 → block at_row h at_column n ≡ map (same_place r s) (block row h a n)
  block_moved row at_row zero a at_column n k l m w e = refl
  block_moved row at_row (suc h) a at_column n k l m w e =
      ap (λ (cs : List ℕ). cs ++ block (at_row + 1) h at_column n) (run_moved row at_row a at_column n k l m w e)
      ∙ ap (λ (cs : List ℕ). map (same_place r s) (run row a n) ++ cs) (block_moved (row + 1) (at_row + 1) h a at_column n (omega (arith, k)) (omega (arith, k, l)) m w e)
      ∙ sym (map-append (same_place r s) (run row a n) (block (row + 1) h a n))

  -- the cells of the one are those at the same places of the other
  pub cells_moved : same_extent r s ≡ true → cells_of s ≡ map (same_place r s) (cells_of r)
  cells_moved k =
      let q = sizes r s k in
      let narrow : column_of r.last < 16384 = mod-lt r.last (omega arith) in
      let narrow_first : column_of r.first < 16384 = mod-lt r.first (omega arith) in
      ap (λ (h : ℕ). block (row_of s.first) h (column_of s.first) ((column_of s.last + 1) - column_of s.first)) (sym q.heights)
      ∙ ap (λ (n : ℕ). block (row_of s.first) ((row_of r.last + 1) - row_of r.first) (column_of s.first) n) (sym q.widths)
      ∙ block_moved (row_of r.first) (row_of s.first) ((row_of r.last + 1) - row_of r.first) (column_of r.first) (column_of s.first) ((column_of r.last + 1) - column_of r.first) (omega arith) (omega arith) (omega arith) (omega arith) (omega (arith, narrow, narrow_first))
