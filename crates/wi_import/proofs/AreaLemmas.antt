-- The rectangles of records, as the code goes through them.
use Rattle.std.specs.Prelude.{cond, filter, map, nat_lt, Bool}
use Rattle.std.specs.List.{enumerate_from}
use Rattle.std.proofs.lemmas.Bool.{lt-ltb}
use Rattle.wi_import.proofs.Words.{◌≡◌, ◌==◌, ℕ, suc, ◌+◌, ◌-◌, ◌<◌, ◌≤◌, min, max, List, [], ◌∷◌, ◌++◌, length, drop, get_or, Option, Some, None, false, refl, sym, ap, ◌∙◌, arith, Vec, Global, at_drop_more, length-map, append_assoc, append-nil, drop_all, div-mul-add, mod-mul-add, Area, columns, place, row_of, column_of, rect_of, area_of_record, areas_from, bytes_of, all_bytes}

abbrev pub area_before : Option Area → List Area → List Area
area_before None areas = areas
area_before (Some area) areas = area ∷ areas

up_to_last : (column more : ℕ) → column + suc more - 1 ≡ column + more
up_to_last column more = omega arith

-- the cells of a record in its row
abbrev placed : ℕ → ℕ × List (List ℕ) → Area
placed column r = record { first = place r.0 column; last = place r.0 (column + length r.1 - 1) }

area_first : (row column : ℕ) (fields : List (List ℕ)) (more : List (List (List ℕ)))
    → areas_from row column (fields ∷ more) ≡ area_before (area_of_record row column fields) (areas_from (row + 1) column more)
area_first row column [] more = refl
area_first row column (field ∷ others) more =
    let behind = filter (λ r. nat_lt 0 (length r.1)) (enumerate_from (row + 1) more) in
    let some : 0 < length (field ∷ others) = omega arith in
    ap (λ (t : Bool). map (placed column) (cond t ((row, field ∷ others) ∷ behind) behind)) (lt-ltb 0 (length (field ∷ others)) some)
    ∙ ap (λ k. record { first = place row column; last = place row k } ∷ areas_from (row + 1) column more) (up_to_last column (length others))

-- the rectangles of what is left of the records
abbrev pub areas_left : ℕ → ℕ → ℕ → List (Vec (Vec ℕ Global) Global) → List Area
areas_left row column i records = areas_from (row + i) column (all_bytes (drop i records))

pub next_area : (row column i : ℕ) (records : List (Vec (Vec ℕ Global) Global)) (fields : Vec (Vec ℕ Global) Global) → i < length records → fields ≡ get_or records i fields
    → areas_left row column i records ≡ area_before (area_of_record (row + i) column (bytes_of fields.items)) (areas_left row column (i + 1) records)
next_area row column i records r l e =
    at_drop_more (λ rs. areas_from (row + i) column (all_bytes rs)) records i r l
    ∙ ap (λ x. areas_from (row + i) column (bytes_of x.items ∷ all_bytes (drop (i + 1) records))) (sym e)
    ∙ area_first (row + i) column (bytes_of r.items) (all_bytes (drop (i + 1) records))
    ∙ ap (λ n. area_before (area_of_record (row + i) column (bytes_of r.items)) (areas_from n column (all_bytes (drop (i + 1) records)))) same
  where
    same : row + i + 1 ≡ row + (i + 1)
    same = omega arith

least_of : (a b : ℕ) → min a (a + b) ≡ a
least_of a b = omega arith

most_of : (a b : ℕ) → max a (a + b) ≡ a + b
most_of a b = omega arith

least_same : (a : ℕ) → min a a ≡ a
least_same a = omega arith

most_same : (a : ℕ) → max a a ≡ a
most_same a = omega arith

starts_within : (a b : ℕ) → a + b < columns → a < columns
starts_within a b h = omega (arith, h)

-- a part of a row, as a rectangle
pub row_part : (row first more : ℕ) → first + more < columns
    → rect_of (place row first) (place row (first + more)) ≡ record { first = place row first; last = place row (first + more) }
row_part row first more h =
    let k = starts_within first more h in
    let a : row_of (place row first) ≡ row = div-mul-add row columns first k in
    let b : row_of (place row (first + more)) ≡ row = div-mul-add row columns (first + more) h in
    let c : column_of (place row first) ≡ first = mod-mul-add row columns first k in
    let d : column_of (place row (first + more)) ≡ first + more = mod-mul-add row columns (first + more) h in
    rw (a, b, c, d, least_same row, most_same row, least_of first more, most_of first more)

abbrev area_to : ℕ → ℕ → ℕ → Area
area_to row column more = record { first = place row column; last = place row (column + more) }

last_within : (column more : ℕ) → column + suc more ≤ columns → column + more < columns
last_within column more h = omega (arith, h)

-- the rectangle of a record of the code
pub record_area : (row column : ℕ) (fields : List (Vec ℕ Global)) (first last : ℕ) (r : Area) → (length fields == 0) ≡ false → column + length fields ≤ columns
    → first ≡ place row column → last ≡ place row (column + length fields - 1) → r ≡ rect_of first last → Some r ≡ area_of_record row column (bytes_of fields)
record_area row column [] first last r some fits a b e = cc some
record_area row column (f ∷ fs) first last r some fits a b e =
    let sizes = up_to_last column (length fs) in
    let part = row_part row column (length fs) (last_within column (length fs) fits) in
    ap Some (e ∙ ap (λ n. rect_of n last) a ∙ ap (rect_of (place row column)) (b ∙ ap (place row) sizes) ∙ part)
    ∙ ap (λ n. Some (area_to row column n)) (sym (length-map fs (λ x. x.items)))

same_area : (row column r k i : ℕ) (now items : List (Vec ℕ Global)) → r ≡ row → k ≡ column → now ≡ items
    → area_of_record (r + i) k (bytes_of now) ≡ area_of_record (row + i) column (bytes_of items)
same_area row column r k i now items a b e =
    ap (λ n. area_of_record (n + i) k (bytes_of now)) a ∙ ap (λ n. area_of_record (row + i) n (bytes_of now)) b ∙ ap (λ fs. area_of_record (row + i) column (bytes_of fs)) e

-- with the rectangle that the code finds for this record, those so far and those of what is left behind it are all
pub area_told : (row column r k i : ℕ) (records : List (Vec (Vec ℕ Global) Global)) (fields : Vec (Vec ℕ Global) Global) (now : List (Vec ℕ Global)) (found : Option Area) (before after all : List Area)
    → i < length records → fields ≡ get_or records i fields → r ≡ row → k ≡ column → now ≡ fields.items → found ≡ area_of_record (r + i) k (bytes_of now)
    → after ++ areas_left row column (i + 1) records ≡ before ++ area_before found (areas_left row column (i + 1) records) → before ++ areas_left row column i records ≡ all
    → after ++ areas_left row column (i + 1) records ≡ all
area_told row column r k i records fields now found before after all l e a b same is told whole =
    told
    ∙ ap (λ o. before ++ area_before o (areas_left row column (i + 1) records)) (is ∙ same_area row column r k i now fields.items a b same)
    ∙ ap (λ xs. before ++ xs) (sym (next_area row column i records fields l e))
    ∙ whole

-- before the first record all are left
pub none_told : (row column : ℕ) (records : List (Vec (Vec ℕ Global) Global)) (areas : List Area) → areas ≡ [] → areas ++ areas_left row column 0 records ≡ areas_from row column (all_bytes records)
none_told row column records areas e = ap (λ xs. xs ++ areas_left row column 0 records) e ∙ ap (λ n. areas_from n column (all_bytes records)) same
  where
    same : row + 0 ≡ row
    same = omega arith

-- how the code tells the rectangle that it finds
pub told_some : (before after more : List Area) (found : Option Area) (area : Area) → found ≡ Some area → after ≡ before ++ area ∷ [] → after ++ more ≡ before ++ area_before found more
told_some before after more found area f e =
    ap (λ xs. xs ++ more) e ∙ append_assoc before (area ∷ []) more ∙ ap (λ o. before ++ area_before o more) (sym f)

pub told_none : (before after more : List Area) (found : Option Area) → found ≡ None → after ≡ before → after ++ more ≡ before ++ area_before found more
told_none before after more found f e = ap (λ xs. xs ++ more) e ∙ ap (λ o. before ++ area_before o more) (sym f)

-- behind the last record nothing is left
pub all_told : (row column i : ℕ) (records : List (Vec (Vec ℕ Global) Global)) (areas all : List Area) → length records ≤ i → areas ++ areas_left row column i records ≡ all → areas ≡ all
all_told row column i records areas all end whole =
    sym (append-nil areas) ∙ ap (λ rs. areas ++ areas_from (row + i) column (all_bytes rs)) (sym (drop_all i records end)) ∙ whole
