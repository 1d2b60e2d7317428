-- The record of a row, and the records of rows, as they grow.
use Rattle.wi_reports.proofs.Words.{◌≡◌, ℕ, zero, suc, true, add-one, ◌+◌, ◌-◌, List, [], ◌∷◌, ◌++◌, map, sym, ap, ◌∙◌, arith, Result, Ok, Err, OnOk, flat_map, range_with_len, flat_map_more, append-nil, eqb-true, Area, place, row_of, column_of, is_column, is_row, rows_in, cells_of, cells_of_row, Replacement, Stored, row_shown}
use Rattle.wi_csv.specs.Row as csv

-- one more number of a range
range_more : (a n j : ℕ) → a + n ≡ j → range_with_len a (suc n) ≡ range_with_len a n ++ j ∷ []
range_more a zero j e = let same : a ≡ j = omega arith in ap (λ x. x ∷ []) same
range_more a (suc n) j e = ap (λ xs. a ∷ xs) (range_more (a + 1) n j (omega arith))

-- the record of a row
pub row_done : {X E : Type 0} (bytes : X → List ℕ) (r : Result (Unit {0}) E) (f : ℕ → List ℕ) (cells : List ℕ) (none lent written : List X) (before next : List ℕ)
    → none ≡ [] → lent ≡ written → map bytes written ≡ map bytes none ++ map f cells → OnOk r (next ≡ before ++ csv.row (map bytes lent)) → OnOk r (next ≡ before ++ csv.row (map f cells))
row_done bytes (Ok u) f cells none lent written before next e same h k =
    k ∙ ap (λ ts. before ++ csv.row ts) (ap (map bytes) same ∙ h ∙ ap (λ xs. map bytes xs ++ map f cells) e)
row_done bytes (Err x) f cells none lent written before next e same h k = tt

-- one more row
pub rows_more : (put : List Replacement) (stored stored' : Stored) (area : Area) (first n m r : ℕ) (out before next : List ℕ) → first + n ≡ r → m ≡ n + 1 → stored' ≡ stored
    → out ≡ before ++ flat_map (row_shown stored.sheet put area) (range_with_len first n) → next ≡ out ++ row_shown stored'.sheet put area r
    → next ≡ before ++ flat_map (row_shown stored.sheet put area) (range_with_len first m)
rows_more put stored stored' area first n m r out before next e more_is same h k =
    let f = row_shown stored.sheet put area in
    let more : range_with_len first (n + 1) ≡ range_with_len first n ++ r ∷ [] = ap (range_with_len first) (add-one n) ∙ range_more first n r e in
    k ∙ ap (λ (x : Stored). out ++ row_shown x.sheet put area r) same ∙ ap (λ x. x ++ f r) h ∙ flat_map_more f before (range_with_len first n) r
    ∙ ap (λ xs. before ++ flat_map f xs) (sym more) ∙ ap (λ x. before ++ flat_map f (range_with_len first x)) (sym more_is)

-- ---- the cells of a rectangle, row after row

-- the cells of the first rows
abbrev pub rows_from : Area → ℕ → ℕ → List ℕ
rows_from area first n = flat_map (λ r. cells_of_row r area) (range_with_len first n)

-- one more row
pub one_row : (area : Area) (first n m row : ℕ) → first + n ≡ row → m ≡ n + 1 → rows_from area first m ≡ rows_from area first n ++ cells_of_row row area
one_row area first n m row e more =
    let g : ℕ → List ℕ = λ r. cells_of_row r area in
    ap (λ (k : ℕ). flat_map g (range_with_len first k)) (more ∙ add-one n)
    ∙ ap (flat_map g) (range_more first n row e) ∙ sym (flat_map_more g [] (range_with_len first n) row)

-- all of them
range_is : (area : Area) (upper first lower last n : ℕ) → upper ≡ area.first → first ≡ row_of upper → lower ≡ area.last → last ≡ row_of lower → n ≡ (last + 1) - first → range_with_len first n ≡ rows_in area
range_is area upper first lower last n u_is first_is l_is last_is e =
    let a : first ≡ row_of area.first = first_is ∙ ap row_of u_is in
    let b : last ≡ row_of area.last = last_is ∙ ap row_of l_is in
    let all : n ≡ (row_of area.last + 1) - row_of area.first = e ∙ ap (λ x. (x + 1) - first) b ∙ ap (λ x. (row_of area.last + 1) - x) a in
    ap (λ x. range_with_len x n) a ∙ ap (range_with_len (row_of area.first)) all

pub rows_are : (area : Area) (upper first lower last n : ℕ) → upper ≡ area.first → first ≡ row_of upper → lower ≡ area.last → last ≡ row_of lower → n ≡ (last + 1) - first → rows_from area first n ≡ cells_of area
rows_are area upper first lower last n u_is first_is l_is last_is e = ap (flat_map (λ r. cells_of_row r area)) (range_is area upper first lower last n u_is first_is l_is last_is e)

pub all_rows : (f : List ℕ → List ℕ) (area : Area) (upper first lower last n : ℕ) (before out : List ℕ) → upper ≡ area.first → first ≡ row_of upper → lower ≡ area.last → last ≡ row_of lower
    → n ≡ (last + 1) - first → out ≡ before ++ f (range_with_len first n) → out ≡ before ++ f (rows_in area)
all_rows f area upper first lower last n before out u_is first_is l_is last_is e h = h ∙ ap (λ rs. before ++ f rs) (range_is area upper first lower last n u_is first_is l_is last_is e)

-- the first cells of a row
abbrev pub cells_in : ℕ → ℕ → ℕ → List ℕ
cells_in row first n = map (place row) (range_with_len first n)

-- all of them
pub row_is : (area : Area) (row upper first lower last n : ℕ) → upper ≡ area.first → first ≡ column_of upper → lower ≡ area.last → last ≡ column_of lower → n ≡ (last + 1) - first → cells_in row first n ≡ cells_of_row row area
row_is area row upper first lower last n u_is first_is l_is last_is e =
    let a : first ≡ column_of area.first = first_is ∙ ap column_of u_is in
    let b : last ≡ column_of area.last = last_is ∙ ap column_of l_is in
    let all : n ≡ (column_of area.last + 1) - column_of area.first = e ∙ ap (λ x. (x + 1) - first) b ∙ ap (λ x. (column_of area.last + 1) - x) a in
    ap (λ x. cells_in row x n) a ∙ ap (cells_in row (column_of area.first)) all

-- the one cell that a row of a column has
pub row_of_column : (area : Area) (r c at : ℕ) → is_column area ≡ true → c ≡ column_of area.first → at ≡ place r c → cells_of_row r area ≡ at ∷ []
row_of_column area r c at one is place_is =
    let same : column_of area.last ≡ column_of area.first = sym (eqb-true (column_of area.first) (column_of area.last) one) in
    let width : (column_of area.last + 1) - column_of area.first ≡ 1 = omega (arith, same) in
    ap (λ k. map (place r) (range_with_len (column_of area.first) k)) width ∙ ap (λ x. place r x ∷ []) (sym is) ∙ ap (λ x. x ∷ []) (sym place_is)

-- the cells of a rectangle that is a row
pub cells_of_one_row : (area : Area) → is_row area ≡ true → cells_of_row (row_of area.first) area ≡ cells_of area
cells_of_one_row area one =
    let same : row_of area.last ≡ row_of area.first = sym (eqb-true (row_of area.first) (row_of area.last) one) in
    let height : (row_of area.last + 1) - row_of area.first ≡ 1 = omega (arith, same) in
    sym (append-nil (cells_of_row (row_of area.first) area)) ∙ ap (λ k. flat_map (λ r. cells_of_row r area) (range_with_len (row_of area.first) k)) (sym height)
