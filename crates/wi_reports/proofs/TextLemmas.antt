-- A text for each cell of a row, one after another.
use Rattle.wi_reports.proofs.Words.{◌≡◌, ℕ, ◌+◌, ◌-◌, List, [], ◌∷◌, ◌++◌, map, sym, ap, ◌∙◌, append_assoc, subst, Result, OnOk, range_with_len, map-append, map-range_with_len_more, place, column_of, cells_of_row, Area, shown_text, Value, Stored}

-- the texts of the first cells of a row
abbrev pub texts : (ℕ → List ℕ) → ℕ → ℕ → ℕ → List (List ℕ)
texts f row first n = map f (map (place row) (range_with_len first n))

-- one more
pub one_text : {X : Type 0} (bytes : X → List ℕ) (f : Stored → ℕ → List ℕ) (stored stored' : Stored) (before : List (List ℕ)) (row first n m c at : ℕ) (written next : List X)
    → first + n ≡ c → m ≡ n + 1 → stored' ≡ stored → at ≡ place row c → map bytes written ≡ before ++ texts (f stored) row first n → map bytes next ≡ map bytes written ++ f stored' at ∷ []
    → map bytes next ≡ before ++ texts (f stored) row first m
one_text bytes f stored stored' before row first n m c at written next e more same place_is so_far grown =
    let cells = map (place row) (range_with_len first n) in
    let here : f stored' at ≡ f stored (place row c) = ap (λ (s : Stored). f s at) same ∙ ap (f stored) place_is in
    let all : map (f stored) cells ++ f stored (place row c) ∷ [] ≡ texts (f stored) row first m =
    sym (map-append (f stored) cells (place row c ∷ [])) ∙ ap (map (f stored)) (sym (map-range_with_len_more (place row) first n c e))
    ∙ ap (λ k. texts (f stored) row first k) (sym more) in
    grown ∙ ap (λ ts. ts ++ f stored' at ∷ []) so_far ∙ ap (λ t. (before ++ map (f stored) cells) ++ t ∷ []) here
    ∙ append_assoc before (map (f stored) cells) (f stored (place row c) ∷ []) ∙ ap (λ ts. before ++ ts) all

-- the text of a value
pub one_shown : {E : Type 0} (r : Result (Unit {0}) E) (before next : List (List ℕ)) (v w : Value) → v ≡ w → OnOk r (next ≡ before ++ shown_text v ∷ []) → OnOk r (next ≡ before ++ shown_text w ∷ [])
one_shown r before next v w e = subst (λ (x : Value). OnOk r (next ≡ before ++ shown_text x ∷ [])) e

-- all cells of a row
pub all_texts : (f : ℕ → List ℕ) (area : Area) (row upper first lower last n : ℕ) (before written : List (List ℕ))
    → upper ≡ area.first → first ≡ column_of upper → lower ≡ area.last → last ≡ column_of lower → n ≡ (last + 1) - first → written ≡ before ++ texts f row first n
    → written ≡ before ++ map f (cells_of_row row area)
all_texts f area row upper first lower last n before written u_is first_is l_is last_is e h =
    let a : first ≡ column_of area.first = first_is ∙ ap column_of u_is in
    let b : last ≡ column_of area.last = last_is ∙ ap column_of l_is in
    let all : n ≡ (column_of area.last + 1) - column_of area.first = e ∙ ap (λ x. (x + 1) - first) b ∙ ap (λ x. (column_of area.last + 1) - x) a in
    h ∙ ap (λ x. before ++ texts f row x n) a ∙ ap (λ x. before ++ texts f row (column_of area.first) x) all
