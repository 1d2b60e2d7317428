-- Addresses and rectangles of the sheet as operands of commands.
use Rattle.wi_scenarios.proofs.Words.{◌≡◌, ◌∙◌, ℕ, ◌<◌, ◌≤◌, ◌||◌, false, nat_le, min, max, ap, arith, nat_tests, Area, place, rect_of, row_of, column_of, rows, columns, Cell, CornerCells, is_outside, address, area, cell, height, width, IsPlaced, IsSpanned, or_from, or_parts, ◌*◌}

-- a number of cells, as a product
pub once : (n : ℕ) → n * 1 ≡ n
once n = omega arith

pub not_above : (m n : ℕ) → n < m → nat_le m n ≡ false
not_above m n l = grind (arith, nat_tests)

below : (m n : ℕ) → nat_le m n ≡ false → n < m
below m n e = grind (arith, nat_tests)

-- ---- addresses

in_sheet : (a : ℕ) → row_of a < rows → is_outside (cell a) ≡ false
in_sheet a l =
    let k : column_of a < columns = omega arith in
    or_from (nat_le rows (row_of a)) (nat_le columns (column_of a)) (not_above rows (row_of a) l) (not_above columns (column_of a) k)

address_again : (a : ℕ) → address (cell a) ≡ a
address_again a = omega arith

pub placed : (a : ℕ) → row_of a < rows → IsPlaced a
placed a l = record { inside = in_sheet a l; again = address_again a }

-- ---- rectangles

abbrev between : ℕ → ℕ → Area
between first last = record { first = first; last = last }

area_again : (first last : ℕ) → row_of first ≤ row_of last → column_of first ≤ column_of last → area (cell first, cell last) ≡ between first last
area_again first last down right =
    ap (λ (x : ℕ). rect_of x (address (cell last))) (address_again first)
    ∙ ap (λ (x : ℕ). rect_of first x) (address_again last)
    ∙ ap (λ (x : ℕ). between x (place (max (row_of first) (row_of last)) (max (column_of first) (column_of last)))) low
    ∙ ap (λ (x : ℕ). between first x) high
  where
    low : place (min (row_of first) (row_of last)) (min (column_of first) (column_of last)) ≡ first
    low = omega (arith, down, right)

    high : place (max (row_of first) (row_of last)) (max (column_of first) (column_of last)) ≡ last
    high = omega (arith, down, right)

pub spanned : (r : Area) → row_of r.first < rows → row_of r.last < rows → row_of r.first ≤ row_of r.last → column_of r.first ≤ column_of r.last → IsSpanned r
spanned r top bottom down right = record {
  inside = or_from (is_outside (cell r.first)) (is_outside (cell r.last)) (in_sheet r.first top) (in_sheet r.last bottom);
  again = area_again r.first r.last down right;
}

-- by its rows, and by a height and a width that aren't 0
pub spanned_rows : (r : Area) (first last top bottom h w : ℕ) → first ≡ r.first → last ≡ r.last → top ≡ row_of first → top < rows → bottom ≡ row_of last → bottom < rows
    → h ≡ height r → 0 < h → w ≡ width r → 0 < w → IsSpanned r
spanned_rows r first last top bottom h w f l t tl b bl eh ph ew pw =
    let up : top ≡ row_of r.first = t ∙ ap row_of f in
    let low : bottom ≡ row_of r.last = b ∙ ap row_of l in
    spanned r (omega (arith, up, tl)) (omega (arith, low, bl)) (omega (arith, eh, ph)) (omega (arith, ew, pw))

-- of corners that the sheet has
row_is : (row column : ℕ) → column < columns → row_of (place row column) ≡ row
row_is row column l = omega (arith, l)

column_is : (row column : ℕ) → column < columns → column_of (place row column) ≡ column
column_is row column l = omega (arith, l)

spanned_by : (x y : ℕ) → row_of x < rows → row_of y < rows → IsSpanned (rect_of x y)
spanned_by x y k l =
    let near : column_of x < columns = omega arith in
    let far : column_of y < columns = omega arith in
    let top = row_is (min (row_of x) (row_of y)) (min (column_of x) (column_of y)) (omega (arith, near)) in
    let left = column_is (min (row_of x) (row_of y)) (min (column_of x) (column_of y)) (omega (arith, near)) in
    let bottom = row_is (max (row_of x) (row_of y)) (max (column_of x) (column_of y)) (omega (arith, near, far)) in
    let right = column_is (max (row_of x) (row_of y)) (max (column_of x) (column_of y)) (omega (arith, near, far)) in
    spanned (rect_of x y) (omega (arith, top, k)) (omega (arith, bottom, k, l)) (omega (arith, top, bottom)) (omega (arith, left, right))

row_within : (c : Cell) → is_outside c ≡ false → row_of (address c) < rows
row_within c e =
    let p = or_parts (nat_le rows c.row) (nat_le columns c.column) e in
    let up = below rows c.row p.0 in
    let at = row_is c.row c.column (below columns c.column p.1) in
    omega (arith, up, at)

pub placed_again : (c : Cell) → is_outside c ≡ false → IsPlaced (address c)
placed_again c e = placed (address c) (row_within c e)

pub spanned_again : (r : CornerCells) → (is_outside r.0 || is_outside r.1) ≡ false → IsSpanned (area r)
spanned_again r e =
    let p = or_parts (is_outside r.0) (is_outside r.1) e in
    spanned_by (address r.0) (address r.1) (row_within r.0 p.0) (row_within r.1 p.1)
