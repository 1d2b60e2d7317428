-- The records of a comparison, as they grow.
use Rattle.wi_reports.proofs.Words.{◌≡◌, ℕ, ◌+◌, ◌-◌, List, [], ◌∷◌, ◌++◌, sym, ap, ◌∙◌, append_assoc, flat_map, flat_map-append, flat_map_more, map-range_with_len_more, Area, place, column_of, cells_of_row, Stored}
use Rattle.wi_reports.proofs.RowLemmas.{rows_from, one_row, cells_in, row_is}

-- one more cell of a row
pub one_cell : (f : Stored → ℕ → List ℕ) (stored stored' : Stored) (row first n m c at : ℕ) (out before next : List ℕ) → first + n ≡ c → m ≡ n + 1 → stored' ≡ stored → at ≡ place row c
    → out ≡ before ++ flat_map (f stored) (cells_in row first n) → next ≡ out ++ f stored' at → next ≡ before ++ flat_map (f stored) (cells_in row first m)
one_cell f stored stored' row first n m c at out before next e more same place_is h k =
    let all : cells_in row first n ++ place row c ∷ [] ≡ cells_in row first m =
    sym (map-range_with_len_more (place row) first n c e) ∙ ap (cells_in row first) (sym more) in
    k ∙ ap (λ (s : Stored). out ++ f s at) same ∙ ap (λ x. out ++ f stored x) place_is ∙ ap (λ x. x ++ f stored (place row c)) h
    ∙ flat_map_more (f stored) before (cells_in row first n) (place row c) ∙ ap (λ xs. before ++ flat_map (f stored) xs) all

-- all cells of a row
pub all_cells : (f : ℕ → List ℕ) (area : Area) (row upper first lower last n : ℕ) (before out : List ℕ) → upper ≡ area.first → first ≡ column_of upper → lower ≡ area.last → last ≡ column_of lower
    → n ≡ (last + 1) - first → out ≡ before ++ flat_map f (cells_in row first n) → out ≡ before ++ flat_map f (cells_of_row row area)
all_cells f area row upper first lower last n before out u_is first_is l_is last_is e h =
    h ∙ ap (λ xs. before ++ flat_map f xs) (row_is area row upper first lower last n u_is first_is l_is last_is e)

-- one more row
pub one_more_row : (f : Stored → ℕ → List ℕ) (stored stored' : Stored) (area : Area) (first n m r : ℕ) (out before next : List ℕ) → first + n ≡ r → m ≡ n + 1 → stored' ≡ stored
    → out ≡ before ++ flat_map (f stored) (rows_from area first n) → next ≡ out ++ flat_map (f stored') (cells_of_row r area)
    → next ≡ before ++ flat_map (f stored) (rows_from area first m)
one_more_row f stored stored' area first n m r out before next e more same h k =
    let done = flat_map (f stored) (rows_from area first n) in
    let row = flat_map (f stored) (cells_of_row r area) in
    k ∙ ap (λ (s : Stored). out ++ flat_map (f s) (cells_of_row r area)) same ∙ ap (λ x. x ++ row) h ∙ append_assoc before done row
    ∙ ap (λ x. before ++ x) (sym (flat_map-append (f stored) (rows_from area first n) (cells_of_row r area)) ∙ ap (flat_map (f stored)) (sym (one_row area first n m r e more)))
