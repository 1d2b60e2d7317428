-- What questions cost, one after another, and on a walk through cells.
use Rattle.wi_reports.proofs.Words.{◌≡◌, ℕ, ◌+◌, ◌-◌, ◌<◌, ◌≤◌, add-one, List, ◌∷◌, ◌++◌, length, map, sym, ap, ◌∙◌, subst, arith, sum_by, sum_by-append, length-append, flat_map, flat_map-append, range_with_len, Area, place, column_of, cells_of_row, is_column, true, Sheet, Case, wants, Stored, Costs}
use Rattle.wi_reports.proofs.RowLemmas.{rows_from, cells_in, row_of_column}

-- the sheet is as it was
pub asked_of : (f : Stored → List Case) (stored stored' : Stored) {a b : ℕ × ℕ} → stored' ≡ stored → Costs stored'.sheet (f stored') a b → Costs stored.sheet (f stored) a b
asked_of f stored stored' {a = a} {b = b} same h = subst (λ (x : Stored). Costs x.sheet (f x) a b) same h

-- one question is asked, and then nothing is counted
pub asked_then : (s : Sheet) (cases : List Case) {e m e' r n r' : ℕ} → m ≤ e + length cases → n ≤ r + sum_by (wants s) cases → e' ≡ m → r' ≡ n → Costs s cases (e, r) (e', r')
asked_then s cases evaluations restarts i j = record { evaluations = omega (arith, i, evaluations); restarts = omega (arith, j, restarts) }

-- the cases are these
pub asked_same : {s : Sheet} {xs ys : List Case} {a b : ℕ × ℕ} → xs ≡ ys → Costs s xs a b → Costs s ys a b
asked_same {s} {a = a} {b = b} e h = subst (λ (cases : List Case). Costs s cases a b) e h

-- nothing is asked
pub nothing_asked : (s : Sheet) (cases : List Case) (a : ℕ × ℕ) → Costs s cases a a
nothing_asked s cases a = record { evaluations = omega arith; restarts = omega arith }

-- one question is asked after another
pub both_asked : {s : Sheet} {xs ys : List Case} {a b c : ℕ × ℕ} → Costs s xs a b → Costs s ys b c → Costs s (xs ++ ys) a c
both_asked {s} {xs} {ys} f g =
    let cases : length (xs ++ ys) ≡ length xs + length ys = length-append xs ys in
    let wanted : sum_by (wants s) (xs ++ ys) ≡ sum_by (wants s) xs + sum_by (wants s) ys = sum_by-append (wants s) xs ys in
    record { evaluations = omega (arith, cases, f.evaluations, g.evaluations); restarts = omega (arith, wanted, f.restarts, g.restarts) }

-- the questions at the front are asked
pub front_asked : {s : Sheet} {xs : List Case} {a b : ℕ × ℕ} (ys : List Case) → Costs s xs a b → Costs s (xs ++ ys) a b
front_asked {s} {xs} {a} {b} ys h = both_asked h (nothing_asked s ys b)

-- ---- on a walk

-- what was counted since the old counts and what the cases left may cost stay within what all of them may
pub record Leaves (s : Sheet) (left all : List Case) (old now : ℕ × ℕ) : Type 0 where
  pub evaluations : now.0 + length left ≤ old.0 + length all
  pub restarts : now.1 + sum_by (wants s) left ≤ old.1 + sum_by (wants s) all

-- at the start all are left
pub all_left : {left all : List Case} (s : Sheet) (a : ℕ × ℕ) → left ≡ all → Leaves s left all a a
all_left {left} {all} s a e = subst (λ (cases : List Case). Leaves s left cases a a) e (record { evaluations = omega arith; restarts = omega arith })

-- whatever is left, no more was counted than all may cost
pub within_all : {s : Sheet} {left all : List Case} {old now : ℕ × ℕ} → Leaves s left all old now → Costs s all old now
within_all h = record { evaluations = omega (arith, h.evaluations); restarts = omega (arith, h.restarts) }

some_asked : {s : Sheet} {these left all : List Case} {old mid now : ℕ × ℕ} (rest : List Case) → left ≡ these ++ rest → Leaves s left all old mid → Costs s these mid now → Leaves s rest all old now
some_asked {s} {these} {left} rest e h k =
    let cases : length left ≡ length these + length rest = ap length e ∙ length-append these rest in
    let wanted : sum_by (wants s) left ≡ sum_by (wants s) these + sum_by (wants s) rest = ap (sum_by (wants s)) e ∙ sum_by-append (wants s) these rest in
    record { evaluations = omega (arith, cases, h.evaluations, k.evaluations); restarts = omega (arith, wanted, h.restarts, k.restarts) }

-- the next cell is asked for
pub cell_asked : (f : Stored → ℕ → List Case) (stored stored' : Stored) {cells : List ℕ} {all : List Case} {old mid now : ℕ × ℕ} (at : ℕ) (rest : List ℕ) → stored' ≡ stored → cells ≡ at ∷ rest
    → Leaves stored.sheet (flat_map (f stored) cells) all old mid → Costs stored'.sheet (f stored' at) mid now → Leaves stored.sheet (flat_map (f stored) rest) all old now
cell_asked f stored stored' at rest same e h k =
    some_asked (flat_map (f stored) rest) (ap (flat_map (f stored)) e) h (asked_of (λ x. f x at) stored stored' same k)

-- the next cells are
pub cells_asked : (f : Stored → ℕ → List Case) (stored stored' : Stored) {cells : List ℕ} {all : List Case} {old mid now : ℕ × ℕ} (these rest : List ℕ) → stored' ≡ stored → cells ≡ these ++ rest
    → Leaves stored.sheet (flat_map (f stored) cells) all old mid → Costs stored'.sheet (flat_map (f stored') these) mid now → Leaves stored.sheet (flat_map (f stored) rest) all old now
cells_asked f stored stored' these rest same e h k =
    some_asked (flat_map (f stored) rest) (ap (flat_map (f stored)) e ∙ flat_map-append (f stored) these rest) h (asked_of (λ x. flat_map (f x) these) stored stored' same k)

-- ---- the cells that are left

range_left : (first end : ℕ) → first < end → range_with_len first (end - first) ≡ first ∷ range_with_len (first + 1) (end - (first + 1))
range_left first end l =
    let one : end - first ≡ (end - (first + 1)) + 1 = omega arith in
    ap (range_with_len first) (one ∙ add-one (end - (first + 1)))

-- of a row
pub row_left : (row first end at : ℕ) → first < end → at ≡ place row first → cells_in row first (end - first) ≡ at ∷ cells_in row (first + 1) (end - (first + 1))
row_left row first end at l e = ap (map (place row)) (range_left first end l) ∙ ap (λ x. x ∷ cells_in row (first + 1) (end - (first + 1))) (sym e)

-- of rows
pub rows_left : (area : Area) (first end : ℕ) → first < end → rows_from area first (end - first) ≡ cells_of_row first area ++ rows_from area (first + 1) (end - (first + 1))
rows_left area first end l = ap (flat_map (λ r. cells_of_row r area)) (range_left first end l)

-- of a column
pub column_left : (area : Area) (first end c at : ℕ) → is_column area ≡ true → c ≡ column_of area.first → first < end → at ≡ place first c → rows_from area first (end - first) ≡ at ∷ rows_from area (first + 1) (end - (first + 1))
column_left area first end c at one is l place_is =
    rows_left area first end l ∙ ap (λ xs. xs ++ rows_from area (first + 1) (end - (first + 1))) (row_of_column area first c at one is place_is)
