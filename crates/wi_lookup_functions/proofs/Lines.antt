-- The cells of one row or of one column, counted from the first.
use Rattle.wi_lookup_functions.proofs.Words.{◌≡◌, ℕ, zero, suc, ◌<◌, ◌≤◌, ◌+◌, ◌==◌, true, ◌⊎◌, inl, inr, sym, ap, ◌∙◌, subst, arith, append-nil, or_cases, eqb-true, mod-lt, Area, cells_of, place, row_of, column_of, height, is_line, steps, width, block, run}
use Rattle.wi_lookup_functions.proofs.Searches.{IsNumbered}

run_numbered : (r : Area) (a k n : ℕ) → a ≡ column_of r.first + k → a + n ≤ 16384 → IsNumbered (steps r) k (run (row_of r.first) a n)
run_numbered r a k zero e h = tt
run_numbered r a k (suc n) e h =
    let row_is : row_of (place (row_of r.first) a) ≡ row_of r.first = omega (arith, h) in
    let column_is : column_of (place (row_of r.first) a) ≡ a = omega (arith, h) in
    (omega (arith, row_is, column_is, e), run_numbered r (a + 1) (k + 1) n (omega (arith, e)) (omega (arith, h)))

column_numbered : (r : Area) (row k n : ℕ) → row ≡ row_of r.first + k → IsNumbered (steps r) k (block row n (column_of r.first) 1)
column_numbered r row k zero e = tt
column_numbered r row k (suc n) e =
    let narrow : column_of r.first < 16384 = mod-lt r.first (omega arith) in
    let row_is : row_of (place row (column_of r.first)) ≡ row = omega (arith, narrow) in
    let column_is : column_of (place row (column_of r.first)) ≡ column_of r.first = omega (arith, narrow) in
    (omega (arith, row_is, column_is, e), column_numbered r (row + 1) (k + 1) n (omega (arith, e)))

one_row : (r : Area) → height r ≡ 1 → cells_of r ≡ run (row_of r.first) (column_of r.first) (width r)
one_row r h = ap (λ (n : ℕ). block (row_of r.first) n (column_of r.first) (width r)) h ∙ append-nil (run (row_of r.first) (column_of r.first) (width r))

one_column : (r : Area) → width r ≡ 1 → cells_of r ≡ block (row_of r.first) (height r) (column_of r.first) 1
one_column r h = ap (λ (n : ℕ). block (row_of r.first) (height r) (column_of r.first) n) h

-- the cells of a row or of a column are numbered by their steps
pub line_numbered : (r : Area) → is_line r ≡ true → IsNumbered (steps r) 0 (cells_of r)
line_numbered r h = at (or_cases (height r == 1) (width r == 1) h)
  where
    row_case : height r ≡ 1 → IsNumbered (steps r) 0 (cells_of r)
    row_case e =
        let narrow : column_of r.last < 16384 = mod-lt r.last (omega arith) in
        let also_narrow : column_of r.first < 16384 = mod-lt r.first (omega arith) in
        subst (IsNumbered (steps r) 0) (sym (one_row r e)) (run_numbered r (column_of r.first) 0 (width r) (omega arith) (omega (arith, narrow, also_narrow)))

    column_case : width r ≡ 1 → IsNumbered (steps r) 0 (cells_of r)
    column_case e = subst (IsNumbered (steps r) 0) (sym (one_column r e)) (column_numbered r (row_of r.first) 0 (height r) (omega arith))

    at : ((height r == 1) ≡ true) ⊎ ((width r == 1) ≡ true) → IsNumbered (steps r) 0 (cells_of r)
    at (inl e) = row_case (eqb-true (height r) 1 e)
    at (inr e) = column_case (eqb-true (width r) 1 e)
