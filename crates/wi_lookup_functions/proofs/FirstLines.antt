-- The first column and the first row of a rectangle.
use Rattle.wi_lookup_functions.proofs.Words.{◌≡◌, ℕ, ◌<◌, ◌≤◌, ◌+◌, ◌*◌, ◌==◌, ◌||◌, true, List, length, map, min, max, Some, refl, sym, ap, ◌∙◌, subst, arith, or_left, or_right, option_map, slice_get, range_with_len, Area, cells_of, place, row_of, column_of, is_within, rect_of, Value, within_parts, row_of_place, column_of_place, column_within, within_from, block, region_of, cell_in, Axis, Rows, Columns, line_count, line_width, first_cells, height, is_line, width}
use Rattle.wi_lookup_functions.proofs.CellsByPlace.{cell_at, counted_from, in_block, length-block}
use Rattle.wi_lookup_functions.proofs.Chains.{first_cells_in}

-- the rows and the columns at which a rectangle begins and ends
record Spans (r : Area) (top bottom left right : ℕ) : Type 0 where
  pub top_is : row_of r.first ≡ top
  pub bottom_is : row_of r.last ≡ bottom
  pub left_is : column_of r.first ≡ left
  pub right_is : column_of r.last ≡ right

-- a rectangle from a cell to one below it and to its right
spans_to : (a bottom right : ℕ) → row_of a ≤ bottom → column_of a ≤ right → right < 16384 → Spans (rect_of a (place bottom right)) (row_of a) bottom (column_of a) right
spans_to a bottom right h k l =
    let row_is = row_of_place bottom right l in
    let column_is = column_of_place bottom right l in
    let top : min (row_of a) (row_of (place bottom right)) ≡ row_of a = ap (min (row_of a)) row_is ∙ omega (arith, h) in
    let low : max (row_of a) (row_of (place bottom right)) ≡ bottom = ap (max (row_of a)) row_is ∙ omega (arith, h) in
    let left : min (column_of a) (column_of (place bottom right)) ≡ column_of a = ap (min (column_of a)) column_is ∙ omega (arith, k) in
    let far : max (column_of a) (column_of (place bottom right)) ≡ right = ap (max (column_of a)) column_is ∙ omega (arith, k) in
    record {
      top_is = rw (top, left) (row_of_place (row_of a) (column_of a) (column_within a));
      bottom_is = rw (low, far) row_is;
      left_is = rw (top, left) (column_of_place (row_of a) (column_of a) (column_within a));
      right_is = rw (low, far) column_is;
    }

-- ---- their cells

-- one of the two first lines of a rectangle, with the values of its cells and their count
pub record IsFirstLine (r l : Area) (values : (ℕ → Value) → List Value) (count : ℕ) : Type 0 where
  pub line : is_line l ≡ true
  pub values_are : (cells : ℕ → Value) → values cells ≡ map cells (cells_of l)
  pub count_is : length (cells_of l) ≡ count
  pub inside : (c : ℕ) → is_within l c ≡ true → is_within r c ≡ true

-- a line from the first cell of a rectangle: h cells high and w wide, the i-th one a i rows below it and b i columns to its right
module _ (r l : Area) (bottom right h w n : ℕ) (a b : ℕ → ℕ)
    (l_is : l ≡ rect_of r.first (place bottom right)) (h_is : row_of r.first + h ≡ bottom + 1) (w_is : column_of r.first + w ≡ right + 1)
    (some_rows : 0 < h) (low : h ≤ height r) (some_columns : 0 < w) (far : w ≤ width r) (is_thin : ((h == 1) || (w == 1)) ≡ true)
    (n_is : h * w ≡ n) (each : (i : ℕ) → i < n → (a i < h) × (b i < w) × (a i * w + b i ≡ i)) where
  spans : Spans l (row_of r.first) bottom (column_of r.first) right
  spans =
      subst (λ (m : Area). Spans m (row_of r.first) bottom (column_of r.first) right) (sym l_is)
      (spans_to r.first bottom right (omega (arith, h_is, some_rows)) (omega (arith, w_is, some_columns)) (omega (arith, w_is, some_columns, far, column_within r.last)))

  tall : height l ≡ h
  tall = let top = spans.top_is in let end = spans.bottom_is in omega (arith, top, end, h_is)

  wide : width l ≡ w
  wide = let left = spans.left_is in let end = spans.right_is in omega (arith, left, end, w_is)

  cells_are : cells_of l ≡ block (row_of r.first) h (column_of r.first) w
  cells_are = rw (tall, wide, spans.top_is, spans.left_is) refl

  many : length (cells_of l) ≡ n
  many = ap length cells_are ∙ length-block (row_of r.first) h (column_of r.first) w ∙ n_is

  at_place : (cells : ℕ → Value) (i : ℕ) → i < n → option_map cells (slice_get (cells_of l) i) ≡ Some (cell_in (region_of cells r) (a i) (b i))
  at_place cells i m =
      let p = each i m in
      ap (λ (xs : List ℕ). option_map cells (slice_get xs i)) cells_are
      ∙ ap (λ (j : ℕ). option_map cells (slice_get (block (row_of r.first) h (column_of r.first) w) j)) (sym p.2)
      ∙ ap (option_map cells) (in_block (row_of r.first) h (column_of r.first) w (a i) (b i) p.0 p.1)
      ∙ ap (λ (v : Value). Some v) (sym (cell_at cells r (a i) (b i) (omega (arith, p.0, low)) (omega (arith, p.1, far))))

  line_from : IsFirstLine r l (λ cells. map (λ i. cell_in (region_of cells r) (a i) (b i)) (range_with_len 0 n)) n
  line_from = record {
    line = ap (λ (j : ℕ). (j == 1) || (width l == 1)) tall ∙ ap (λ (j : ℕ). (h == 1) || (j == 1)) wide ∙ is_thin;
    values_are = λ cells.
        ap (λ (j : ℕ). map (λ i. cell_in (region_of cells r) (a i) (b i)) (range_with_len 0 j)) (sym many)
        ∙ counted_from cells (λ i. cell_in (region_of cells r) (a i) (b i)) (cells_of l) 0 (λ i m. let same : i ≡ 0 + i = omega arith in at_place cells i (subst (λ (j : ℕ). i < j) many m) ∙ ap (λ (j : ℕ). Some (cell_in (region_of cells r) (a j) (b j))) same);
    count_is = many;
    inside = λ c k. let p = within_parts l c k in within_from r c (omega (arith, p.0, spans.top_is)) (omega (arith, p.1, spans.bottom_is, h_is, low)) (omega (arith, p.2, spans.left_is)) (omega (arith, p.3, spans.right_is, w_is, far));
  }

-- ---- by the axis

pub first_line : (axis : Axis) (r l : Area) → l ≡ first_cells axis r → 0 < line_count axis r → 0 < line_width axis r → IsFirstLine r l (λ cells. first_cells_in axis (region_of cells r)) (line_count axis r)
first_line Rows r l e some w =
    line_from r l (row_of r.last) (column_of r.first) (height r) 1 (height r) (λ i. i) (λ i. 0) e (omega (arith, some)) (omega arith) some (omega arith) (omega arith) (omega (arith, w)) (or_right (height r == 1) true refl) (omega arith) (λ i m. (m, omega arith, omega arith))
first_line Columns r l e some w =
    line_from r l (row_of r.first) (column_of r.last) 1 (width r) (width r) (λ i. 0) (λ i. i) e (omega arith) (omega (arith, some)) (omega arith) (omega (arith, w)) some (omega arith) (or_left true (width r == 1) refl) (omega arith) (λ i m. (omega arith, m, omega arith))
