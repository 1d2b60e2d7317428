-- The parts of a cell are found exactly where the bytes are the text of one.
use Rattle.wi_lexer.proofs.Words.{◌≡◌, ℕ, ◌<◌, Bool, true, false, cond, ◌&&◌, ◌==◌, List, [], ◌∷◌, ◌++◌, length, take, drop, Some, None, refl, sym, ap, ◌∙◌, subst, arith, nat_lt, slice_index, eqb-true, ltb-true, lt-ltb, and_parts, nat_tests, take-append-drop, drop-append_seam, take-append_seam, list_all, is_ascii_digit, is_ascii_alphabetic, IsRunOf, letters_len, WrittenCell, IsCell, dollar, cell_text, begins_with_dollar, after_dollar, cut_row, cut_column, is_row, is_cell, if_cell, cut, cell_of}
use Rattle.wi_lexer.proofs.RunLemmas.{run_stops, run_more, run_all, all_append, all_wider, cell_from_runs, letters_run, row_run}

-- the text before and after a `$` that may stand first
pub dollar_back : (bs : List ℕ) → dollar (begins_with_dollar bs) ++ after_dollar bs ≡ bs
dollar_back [] = refl
dollar_back (b ∷ bs) = go (b == 36) refl
  where
    go : (t : Bool) → (b == 36) ≡ t → dollar t ++ cond t bs (b ∷ bs) ≡ b ∷ bs
    go true e = ap (λ x. x ∷ bs) (sym (eqb-true b 36 e))
    go false e = refl

if_cell_is : (d c : WrittenCell) → if_cell d ≡ Some c → (is_cell d ≡ true) × (d ≡ c)
if_cell_is d c = go (is_cell d)
  where
    go : (t : Bool) → cond t (Some d) None ≡ Some c → (t ≡ true) × (d ≡ c)
    go true e = (refl, cc)
    go false e = cc

some_digit : (ds : List ℕ) → 48 < slice_index ds 0 → 0 < length ds
some_digit [] h = absurd (omega arith)
some_digit (d ∷ ds) h = omega arith

is_cell_tells : (c : WrittenCell) → is_cell c ≡ true → list_all is_ascii_alphabetic c.letters ≡ true → IsCell c
is_cell_tells c h all =
    let p = and_parts (nat_lt 0 (length c.letters)) (is_row c.digits) h in
    let q = and_parts (nat_lt 48 (slice_index c.digits 0)) (list_all is_ascii_digit c.digits) p.1 in
    let first = ltb-true 48 (slice_index c.digits 0) q.0 in
    cell_from_runs c (record { some = ltb-true 0 (length c.letters) p.0; all = all }) (record { some = some_digit c.digits first; all = q.1 }) first

cut_back : (bs : List ℕ) → cell_text (cut bs) ≡ bs
cut_back bs =
    let column = after_dollar bs in
    let n = letters_len column in
    ap (λ r. dollar (begins_with_dollar bs) ++ (take n column ++ r)) (dollar_back (drop n column))
    ∙ ap (λ r. dollar (begins_with_dollar bs) ++ r) (take-append-drop n column)
    ∙ dollar_back bs

pub cut_is : (bs : List ℕ) (c : WrittenCell) → cell_of bs ≡ Some c → cut bs ≡ c
unfolding cell_of
cut_is bs c h = (if_cell_is (cut bs) c h).1

pub cell_sound : (bs : List ℕ) (c : WrittenCell) → cell_of bs ≡ Some c → IsCell c × (cell_text c ≡ bs)
unfolding cell_of
cell_sound bs c h =
    let d = cut bs in
    let p = if_cell_is d c h in
    (subst IsCell p.1 (is_cell_tells d p.0 (run_all is_ascii_alphabetic (after_dollar bs))), ap cell_text (sym p.1) ∙ cut_back bs)

-- ---- and every cell is found

-- a `$` where the part is absolute is told apart from what doesn't begin with one
pub dollar_found : (absolute : Bool) (xs : List ℕ) → begins_with_dollar xs ≡ false → (begins_with_dollar (dollar absolute ++ xs) ≡ absolute) × (after_dollar (dollar absolute ++ xs) ≡ xs)
dollar_found true xs h = (refl, refl)
dollar_found false xs h = (h, ap (λ t. cond t (drop 1 xs) xs) h)

pub letter_no_dollar : (ls row : List ℕ) → IsRunOf is_ascii_alphabetic ls → begins_with_dollar (ls ++ row) ≡ false
letter_no_dollar [] row run = absurd (omega (arith, run.some))
letter_no_dollar (l ∷ ls) row run = let p = and_parts (is_ascii_alphabetic l) (list_all is_ascii_alphabetic ls) run.all in grind (arith, nat_tests, p.0)

pub digit_no_dollar : (ds : List ℕ) → IsRunOf is_ascii_digit ds → begins_with_dollar ds ≡ false
digit_no_dollar [] run = refl
digit_no_dollar (d ∷ ds) run = let p = and_parts (is_ascii_digit d) (list_all is_ascii_digit ds) run.all in grind (arith, nat_tests, p.0)

no_letter_first : (absolute : Bool) (ds : List ℕ) → IsRunOf is_ascii_digit ds → letters_len (dollar absolute ++ ds) ≡ 0
no_letter_first true ds run = refl
no_letter_first false [] run = refl
no_letter_first false (d ∷ ds) run =
    let p = and_parts (is_ascii_digit d) (list_all is_ascii_digit ds) run.all in
    let no : is_ascii_alphabetic d ≡ false = grind (arith, nat_tests, p.0) in
    run_stops is_ascii_alphabetic d ds no

abbrev cell : Bool → List ℕ → Bool → List ℕ → WrittenCell
cell f ls g ds = record { column_is_absolute = f; letters = ls; row_is_absolute = g; digits = ds }

row_found : (f g : Bool) (ls ds : List ℕ) → begins_with_dollar ds ≡ false → cut_row f ls (dollar g ++ ds) ≡ cell f ls g ds
row_found f g ls ds h =
    let p = dollar_found g ds h in
    ap (λ t. cell f ls t (after_dollar (dollar g ++ ds))) p.0 ∙ ap (λ r. cell f ls g r) p.1

column_found : (f : Bool) (ls row : List ℕ) → list_all is_ascii_alphabetic ls ≡ true → letters_len row ≡ 0 → cut_column f (ls ++ row) ≡ cut_row f ls row
column_found f ls row all stop =
    let n : letters_len (ls ++ row) ≡ length ls = omega (arith, run_more is_ascii_alphabetic ls row all, stop) in
    ap (λ i. cut_row f (take i (ls ++ row)) (drop i (ls ++ row))) n
    ∙ ap (λ x. cut_row f x (drop (length ls) (ls ++ row))) (take-append_seam ls row)
    ∙ ap (λ x. cut_row f ls x) (drop-append_seam ls row)

is_cell_true : (c : WrittenCell) → IsCell c → is_cell c ≡ true
is_cell_true c h = cc (lt-ltb 0 (length c.letters) (letters_run c h).some, lt-ltb 48 (slice_index c.digits 0) h.first, (row_run c h).all)

pub cell_complete : (c : WrittenCell) → IsCell c → cell_of (cell_text c) ≡ Some c
unfolding cell_of
cell_complete c h =
    let row = dollar c.row_is_absolute ++ c.digits in
    let column = c.letters ++ row in
    let p = dollar_found c.column_is_absolute column (letter_no_dollar c.letters row (letters_run c h)) in
    let whole : cut_column (begins_with_dollar (cell_text c)) (after_dollar (cell_text c)) ≡ c =
    ap (λ t. cut_column t (after_dollar (cell_text c))) p.0
    ∙ ap (λ x. cut_column c.column_is_absolute x) p.1
    ∙ column_found c.column_is_absolute c.letters row (letters_run c h).all (no_letter_first c.row_is_absolute c.digits (row_run c h))
    ∙ row_found c.column_is_absolute c.row_is_absolute c.letters c.digits (digit_no_dollar c.digits (row_run c h)) in
    ap if_cell whole ∙ ap (λ t. cond t (Some c) None) (is_cell_true c h)

-- each byte of a cell is of a class that has the letters, the digits and `$`
pub cell_all : (class : ℕ → Bool) → ((b : ℕ) → is_ascii_alphabetic b ≡ true → class b ≡ true) → ((b : ℕ) → is_ascii_digit b ≡ true → class b ≡ true) → class 36 ≡ true → (c : WrittenCell) → IsCell c → list_all class (cell_text c) ≡ true
cell_all class letter digit sign c h =
    let letters = all_wider is_ascii_alphabetic class letter c.letters (letters_run c h).all in
    let digits = all_wider is_ascii_digit class digit c.digits (row_run c h).all in
    let row = all_append class (dollar c.row_is_absolute) c.digits (dollar_all c.row_is_absolute) digits in
    all_append class (dollar c.column_is_absolute) (c.letters ++ (dollar c.row_is_absolute ++ c.digits)) (dollar_all c.column_is_absolute)
    (all_append class c.letters (dollar c.row_is_absolute ++ c.digits) letters row)
  where
    dollar_all : (absolute : Bool) → list_all class (dollar absolute) ≡ true
    dollar_all true = ap (λ t. t && true) sign
    dollar_all false = refl
