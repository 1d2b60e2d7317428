-- The records of a table, as they grow.
use Rattle.wi_reports.proofs.Words.{◌≡◌, ℕ, ◌+◌, true, List, [], ◌∷◌, ◌++◌, map, Option, Result, Ok, Err, OnOk, sym, ap, ◌∙◌, flat_map, flat_map_more, Area, place, column_of, Replacement, Stored, row, is_column, table_row}
use Rattle.wi_reports.proofs.RowLemmas.{rows_from, one_row, row_of_column}

-- ---- records

-- the first text and those after it
pub after_first : {X : Type 0} (bytes : X → List ℕ) (none firsts written : List X) (text : X) (one : List ℕ) (more : List (List ℕ)) → none ≡ [] → firsts ≡ none ++ text ∷ [] → bytes text ≡ one
    → map bytes written ≡ map bytes firsts ++ more → map bytes written ≡ one ∷ more
after_first bytes none firsts written text one more empty first is all =
    let begun : map bytes firsts ≡ one ∷ [] = ap (map bytes) (first ∙ ap (λ xs. xs ++ text ∷ []) empty) ∙ ap (λ t. t ∷ []) is in
    all ∙ ap (λ ts. ts ++ more) begun

-- the record of texts
pub written_as : {X E : Type 0} (bytes : X → List ℕ) (r : Result (Unit {0}) E) (fields : List (List ℕ)) (lent written : List X) (before next : List ℕ)
    → lent ≡ written → map bytes written ≡ fields → OnOk r (next ≡ before ++ row (map bytes lent)) → OnOk r (next ≡ before ++ row fields)
written_as bytes (Ok u) fields lent written before next same h k = k ∙ ap (λ ts. before ++ row ts) (ap (map bytes) same ∙ h)
written_as bytes (Err x) fields lent written before next same h k = tt

-- the record of a first text and those after it
pub row_written : {X E : Type 0} (bytes : X → List ℕ) (r : Result (Unit {0}) E) (one : List ℕ) (more : Stored → List (List ℕ)) (stored stored' : Stored) (none firsts written lent : List X) (before next : List ℕ)
    → none ≡ [] → map bytes firsts ≡ map bytes none ++ one ∷ [] → stored' ≡ stored → map bytes written ≡ map bytes firsts ++ more stored' → lent ≡ written
    → OnOk r (next ≡ before ++ row (map bytes lent)) → OnOk r (next ≡ before ++ row (one ∷ more stored))
row_written bytes r one more stored stored' none firsts written lent before next empty first same all is =
    let fields : map bytes written ≡ one ∷ more stored =
    all ∙ ap (λ ts. ts ++ more stored') (first ∙ ap (λ xs. map bytes xs ++ one ∷ []) empty) ∙ ap (λ (s : Stored). one ∷ more s) same in
    written_as bytes r (one ∷ more stored) lent written before next is fields

-- one more cell of a column
column_more : (area : Area) (first n m r c at : ℕ) → is_column area ≡ true → c ≡ column_of area.first → first + n ≡ r → m ≡ n + 1 → at ≡ place r c → rows_from area first m ≡ rows_from area first n ++ at ∷ []
column_more area first n m r c at one is e more place_is =
    one_row area first n m r e more ∙ ap (λ xs. rows_from area first n ++ xs) (row_of_column area r c at one is place_is)

pub rows_more : (put : List Replacement) (stored stored' : Stored) (f input : ℕ) (second : Option (ℕ × Area)) (area : Area) (first n m r c at : ℕ) (out before next : List ℕ) → is_column area ≡ true → c ≡ column_of area.first
    → first + n ≡ r → m ≡ n + 1 → at ≡ place r c → stored' ≡ stored → out ≡ before ++ flat_map (table_row stored.sheet put f input second) (rows_from area first n)
    → next ≡ out ++ table_row stored'.sheet put f input second at → next ≡ before ++ flat_map (table_row stored.sheet put f input second) (rows_from area first m)
rows_more put stored stored' f input second area first n m r c at out before next one is e more place_is same h k =
    let g = table_row stored.sheet put f input second in
    k ∙ ap (λ (x : Stored). out ++ table_row x.sheet put f input second at) same ∙ ap (λ x. x ++ g at) h ∙ flat_map_more g before (rows_from area first n) at
    ∙ ap (λ xs. before ++ flat_map g xs) (sym (column_more area first n m r c at one is e more place_is))
