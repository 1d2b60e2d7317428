-- What stands at the front of a text: a cell that is found there, and each cell that stands there.
use Rattle.wi_lexer.proofs.Words.{◌≡◌, ℕ, ◌+◌, ◌<◌, ◌≤◌, Bool, true, false, cond, ◌&&◌, ◌==◌, List, [], ◌∷◌, ◌++◌, length, take, drop, refl, sym, ap, ap₂, ◌∙◌, subst, arith, append_assoc, length-append, nat_lt, slice_index, eqb-true, ltb-true, lt-ltb, and_parts, and_from, nat_tests, ne_eqb, get_or-take, length-take-le, take-append-drop, drop-append_seam, take-append_seam, list_all, is_ascii_digit, is_ascii_alphabetic, IsRunOf, letters_len, digits_len, WrittenCell, IsCell, dollar, cell_text, begins_with_dollar, after_dollar, dollar_len, past_dollar, column_len, row_len, cell_len, first_len}
use Rattle.wi_lexer.proofs.RunLemmas.{run_within, run_stops, run_more, run_all, cell_from_runs, letters_run, row_run}
use Rattle.wi_lexer.proofs.CellLemmas.{dollar_back, dollar_found, letter_no_dollar, digit_no_dollar}

-- ---- lengths that are 0 where a test fails

pub passed : (t : Bool) (n : ℕ) → 0 < cond t n 0 → (t ≡ true) × (cond t n 0 ≡ n)
passed true n h = (refl, refl)
passed false n h = absurd (omega (arith, h))

pub kept : (t : Bool) (n : ℕ) → t ≡ true → cond t n 0 ≡ n
kept t n h = ap (λ u. cond u n 0) h

-- ---- what follows the front

pub seam : (front rest bs : List ℕ) (n : ℕ) → front ++ rest ≡ bs → length front ≡ n → drop n bs ≡ rest
seam front rest bs n whole size = ap₂ drop (sym size) (sym whole) ∙ drop-append_seam front rest

pub front_taken : (front rest bs : List ℕ) (n : ℕ) → front ++ rest ≡ bs → length front ≡ n → (n ≤ length bs) × (take n bs ≡ front)
front_taken front rest bs n whole size =
    let within : n ≤ length bs = omega (arith, size, ap length whole, length-append front rest) in
    (within, ap₂ take (sym size) (sym whole) ∙ take-append_seam front rest)

parts_joined : (a b c d rest : List ℕ) → (a ++ (b ++ (c ++ d))) ++ rest ≡ a ++ (b ++ (c ++ (d ++ rest)))
parts_joined a b c d rest =
    append_assoc a (b ++ (c ++ d)) rest ∙ ap (λ x. a ++ x) (append_assoc b (c ++ d) rest ∙ ap (λ x. b ++ x) (append_assoc c d rest))

parts_long : (a b c d : List ℕ) → length (a ++ (b ++ (c ++ d))) ≡ (length a + length b) + (length c + length d)
parts_long a b c d = omega (arith, length-append a (b ++ (c ++ d)), length-append b (c ++ d), length-append c d)

-- ---- a `$`

dollar_long : (absolute : Bool) → cond absolute 1 0 ≡ length (dollar absolute)
dollar_long true = refl
dollar_long false = refl

past_is : (bs : List ℕ) → past_dollar bs ≡ after_dollar bs
past_is bs = go (begins_with_dollar bs)
  where
    go : (t : Bool) → drop (cond t 1 0) bs ≡ cond t (drop 1 bs) bs
    go true = refl
    go false = refl

-- ---- a column

record BeginsColumn (n : ℕ) (bs : List ℕ) : Type 0 where
  absolute : Bool
  letters : List ℕ
  rest : List ℕ
  run : IsRunOf is_ascii_alphabetic letters
  whole : dollar absolute ++ (letters ++ rest) ≡ bs
  size : length (dollar absolute) + length letters ≡ n

column_front : (bs : List ℕ) → 0 < column_len bs → BeginsColumn (column_len bs) bs
unfolding column_len
column_front bs h =
    let column = past_dollar bs in
    let n = letters_len column in
    let p = passed (nat_lt 0 n) (dollar_len bs + n) h in
    let some = ltb-true 0 n p.0 in
    let long = length-take-le n column (run_within is_ascii_alphabetic column) in
    record {
      absolute = begins_with_dollar bs;
      letters = take n column;
      rest = drop n column;
      run = record { some = subst (λ k. 0 < k) (sym long) some; all = run_all is_ascii_alphabetic column };
      whole = ap (λ r. dollar (begins_with_dollar bs) ++ r) (take-append-drop n column ∙ past_is bs) ∙ dollar_back bs;
      size = ap₂ (λ a b. a + b) (sym (dollar_long (begins_with_dollar bs))) long ∙ sym p.1;
    }

column_whole : (f : Bool) (ls row : List ℕ) → IsRunOf is_ascii_alphabetic ls → letters_len row ≡ 0 → column_len (dollar f ++ (ls ++ row)) ≡ length (dollar f) + length ls
unfolding column_len
column_whole f ls row run stop =
    let bs = dollar f ++ (ls ++ row) in
    let found = dollar_found f (ls ++ row) (letter_no_dollar ls row run) in
    let count : letters_len (ls ++ row) ≡ length ls = omega (arith, run_more is_ascii_alphabetic ls row run.all, stop) in
    let n : letters_len (past_dollar bs) ≡ length ls = ap letters_len (past_is bs ∙ found.1) ∙ count in
    let d : dollar_len bs ≡ length (dollar f) = ap (λ t. cond t 1 0) found.0 ∙ dollar_long f in
    kept (nat_lt 0 (letters_len (past_dollar bs))) (dollar_len bs + letters_len (past_dollar bs)) (ap (λ k. nat_lt 0 k) n ∙ lt-ltb 0 (length ls) run.some)
    ∙ ap₂ (λ a b. a + b) d n

-- ---- a row

record BeginsRow (n : ℕ) (bs : List ℕ) : Type 0 where
  absolute : Bool
  digits : List ℕ
  rest : List ℕ
  run : IsRunOf is_ascii_digit digits
  first : 48 < slice_index digits 0
  whole : dollar absolute ++ (digits ++ rest) ≡ bs
  size : length (dollar absolute) + length digits ≡ n

row_front : (bs : List ℕ) → 0 < row_len bs → BeginsRow (row_len bs) bs
unfolding row_len
row_front bs h =
    let row = past_dollar bs in
    let n = digits_len row in
    let p = passed (nat_lt 48 (slice_index row 0) && nat_lt 0 n) (dollar_len bs + n) h in
    let q = and_parts (nat_lt 48 (slice_index row 0)) (nat_lt 0 n) p.0 in
    let some = ltb-true 0 n q.1 in
    let long = length-take-le n row (run_within is_ascii_digit row) in
    record {
      absolute = begins_with_dollar bs;
      digits = take n row;
      rest = drop n row;
      run = record { some = subst (λ k. 0 < k) (sym long) some; all = run_all is_ascii_digit row };
      first = subst (λ b. 48 < b) (sym (get_or-take n row 0 0 some)) (ltb-true 48 (slice_index row 0) q.0);
      whole = ap (λ r. dollar (begins_with_dollar bs) ++ r) (take-append-drop n row ∙ past_is bs) ∙ dollar_back bs;
      size = ap₂ (λ a b. a + b) (sym (dollar_long (begins_with_dollar bs))) long ∙ sym p.1;
    }

digits_no_dollar : (ds rest : List ℕ) → IsRunOf is_ascii_digit ds → begins_with_dollar (ds ++ rest) ≡ false
digits_no_dollar [] rest run = absurd (omega (arith, run.some))
digits_no_dollar (d ∷ ds) rest run = digit_no_dollar (d ∷ ds) run

row_no_letter : (g : Bool) (ds rest : List ℕ) → IsRunOf is_ascii_digit ds → letters_len (dollar g ++ (ds ++ rest)) ≡ 0
row_no_letter true ds rest run = refl
row_no_letter false [] rest run = absurd (omega (arith, run.some))
row_no_letter false (d ∷ ds) rest run =
    let p = and_parts (is_ascii_digit d) (list_all is_ascii_digit ds) run.all in
    let no : is_ascii_alphabetic d ≡ false = grind (arith, nat_tests, p.0) in
    run_stops is_ascii_alphabetic d (ds ++ rest) no

-- what follows a text changes nothing of its first byte
pub first_stays : (ds rest : List ℕ) → 0 < length ds → slice_index (ds ++ rest) 0 ≡ slice_index ds 0
first_stays [] rest some = absurd (omega (arith, some))
first_stays (d ∷ ds) rest some = refl

row_whole : (g : Bool) (ds rest : List ℕ) → IsRunOf is_ascii_digit ds → 48 < slice_index ds 0 → digits_len rest ≡ 0 → row_len (dollar g ++ (ds ++ rest)) ≡ length (dollar g) + length ds
unfolding row_len
row_whole g ds rest run first stop =
    let bs = dollar g ++ (ds ++ rest) in
    let found = dollar_found g (ds ++ rest) (digits_no_dollar ds rest run) in
    let past : past_dollar bs ≡ ds ++ rest = past_is bs ∙ found.1 in
    let count : digits_len (ds ++ rest) ≡ length ds = omega (arith, run_more is_ascii_digit ds rest run.all, stop) in
    let n : digits_len (past_dollar bs) ≡ length ds = ap digits_len past ∙ count in
    let d : dollar_len bs ≡ length (dollar g) = ap (λ t. cond t 1 0) found.0 ∙ dollar_long g in
    let b : slice_index (past_dollar bs) 0 ≡ slice_index ds 0 = ap (λ x. slice_index x 0) past ∙ first_stays ds rest run.some in
    let test : (nat_lt 48 (slice_index (past_dollar bs) 0) && nat_lt 0 (digits_len (past_dollar bs))) ≡ true =
    ap₂ (λ x y. nat_lt 48 x && nat_lt 0 y) b n
    ∙ and_from (nat_lt 48 (slice_index ds 0)) (nat_lt 0 (length ds)) (lt-ltb 48 (slice_index ds 0) first) (lt-ltb 0 (length ds) run.some) in
    kept (nat_lt 48 (slice_index (past_dollar bs) 0) && nat_lt 0 (digits_len (past_dollar bs))) (dollar_len bs + digits_len (past_dollar bs)) test
    ∙ ap₂ (λ a b. a + b) d n

-- ---- a cell

pub record BeginsCell (n : ℕ) (bs : List ℕ) : Type 0 where
  pub cell : WrittenCell
  pub rest : List ℕ
  pub is : IsCell cell
  pub whole : cell_text cell ++ rest ≡ bs
  pub size : length (cell_text cell) ≡ n

pub cell_front : (bs : List ℕ) → 0 < cell_len bs → BeginsCell (cell_len bs) bs
unfolding cell_len
cell_front bs h =
    let n = column_len bs in
    let row = drop n bs in
    let p = passed (nat_lt 0 n && nat_lt 0 (row_len row)) (n + row_len row) h in
    let q = and_parts (nat_lt 0 n) (nat_lt 0 (row_len row)) p.0 in
    let c = column_front bs (ltb-true 0 n q.0) in
    let r = row_front row (ltb-true 0 (row_len row) q.1) in
    let left : row ≡ c.rest =
    seam (dollar c.absolute ++ c.letters) c.rest bs n (append_assoc (dollar c.absolute) c.letters c.rest ∙ c.whole) (length-append (dollar c.absolute) c.letters ∙ c.size) in
    record {
      cell = record { column_is_absolute = c.absolute; letters = c.letters; row_is_absolute = r.absolute; digits = r.digits };
      rest = r.rest;
      is = cell_from_runs (record { column_is_absolute = c.absolute; letters = c.letters; row_is_absolute = r.absolute; digits = r.digits }) c.run r.run r.first;
      whole =
          parts_joined (dollar c.absolute) c.letters (dollar r.absolute) r.digits r.rest
          ∙ ap (λ x. dollar c.absolute ++ (c.letters ++ x)) (r.whole ∙ left)
          ∙ c.whole;
      size = parts_long (dollar c.absolute) c.letters (dollar r.absolute) r.digits ∙ ap₂ (λ a b. a + b) c.size r.size ∙ sym p.1;
    }

-- a cell is found whole where no digit follows it
pub cell_whole : (c : WrittenCell) → IsCell c → (rest : List ℕ) → digits_len rest ≡ 0 → cell_len (cell_text c ++ rest) ≡ length (cell_text c)
unfolding cell_len
cell_whole c h rest stop =
    let f = dollar c.column_is_absolute in
    let g = dollar c.row_is_absolute in
    let row = g ++ (c.digits ++ rest) in
    let bs = cell_text c ++ rest in
    let apart : bs ≡ f ++ (c.letters ++ row) = parts_joined f c.letters g c.digits rest in
    let n : column_len bs ≡ length f + length c.letters =
    ap column_len apart ∙ column_whole c.column_is_absolute c.letters row (letters_run c h) (row_no_letter c.row_is_absolute c.digits rest (row_run c h)) in
    let left : drop (column_len bs) bs ≡ row = seam (f ++ c.letters) row bs (column_len bs) (append_assoc f c.letters row ∙ sym apart) (length-append f c.letters ∙ sym n) in
    let m : row_len (drop (column_len bs) bs) ≡ length g + length c.digits = ap row_len left ∙ row_whole c.row_is_absolute c.digits rest (row_run c h) h.first stop in
    let column = lt-ltb 0 (column_len bs) (omega (arith, n, (letters_run c h).some)) in
    let digits = lt-ltb 0 (row_len (drop (column_len bs) bs)) (omega (arith, m, (row_run c h).some)) in
    kept (nat_lt 0 (column_len bs) && nat_lt 0 (row_len (drop (column_len bs) bs))) (column_len bs + row_len (drop (column_len bs) bs))
    (and_from (nat_lt 0 (column_len bs)) (nat_lt 0 (row_len (drop (column_len bs) bs))) column digits)
    ∙ ap₂ (λ a b. a + b) n m ∙ sym (parts_long f c.letters g c.digits)

cell_some : (c : WrittenCell) → IsCell c → 0 < length (cell_text c)
cell_some c h = omega (arith, parts_long (dollar c.column_is_absolute) c.letters (dollar c.row_is_absolute) c.digits, (letters_run c h).some)

pub cell_found : (c : WrittenCell) → IsCell c → (rest : List ℕ) → digits_len rest ≡ 0 → nat_lt 0 (cell_len (cell_text c ++ rest)) ≡ true
cell_found c h rest stop = lt-ltb 0 (cell_len (cell_text c ++ rest)) (omega (arith, cell_whole c h rest stop, cell_some c h))

-- ---- `[.` and a cell

abbrev pub opened : WrittenCell → List ℕ
opened c = 91 ∷ 46 ∷ cell_text c

opened_back : (bs : List ℕ) → (slice_index bs 0 == 91 && slice_index bs 1 == 46) ≡ true → 91 ∷ 46 ∷ drop 2 bs ≡ bs
opened_back [] h = cc
opened_back (a ∷ []) h = let p = and_parts (a == 91) false h in cc
opened_back (a ∷ b ∷ bs) h = let p = and_parts (a == 91) (b == 46) h in cc (eqb-true a 91 p.0, eqb-true b 46 p.1)

pub record BeginsFirst (n : ℕ) (bs : List ℕ) : Type 0 where
  pub cell : WrittenCell
  pub rest : List ℕ
  pub is : IsCell cell
  pub whole : opened cell ++ rest ≡ bs
  pub size : length (opened cell) ≡ n

pub first_front : (bs : List ℕ) → 0 < first_len bs → BeginsFirst (first_len bs) bs
unfolding first_len
first_front bs h =
    let inside = drop 2 bs in
    let opens = slice_index bs 0 == 91 && slice_index bs 1 == 46 in
    let p = passed (opens && nat_lt 0 (cell_len inside)) (2 + cell_len inside) h in
    let q = and_parts opens (nat_lt 0 (cell_len inside)) p.0 in
    let c = cell_front inside (ltb-true 0 (cell_len inside) q.1) in
    let long : length (opened c.cell) ≡ 2 + cell_len inside = omega (arith, c.size) in
    record { cell = c.cell; rest = c.rest; is = c.is; whole = ap (λ x. 91 ∷ 46 ∷ x) c.whole ∙ opened_back bs q.0; size = long ∙ sym p.1 }

pub first_whole : (c : WrittenCell) → IsCell c → (rest : List ℕ) → digits_len rest ≡ 0 → first_len (opened c ++ rest) ≡ length (opened c)
unfolding first_len
first_whole c h rest stop =
    let long : 2 + cell_len (cell_text c ++ rest) ≡ length (opened c) = omega (arith, cell_whole c h rest stop) in
    kept (nat_lt 0 (cell_len (cell_text c ++ rest))) (2 + cell_len (cell_text c ++ rest)) (cell_found c h rest stop) ∙ long

pub no_first : (bs : List ℕ) → (slice_index bs 0 ≡ 91 → ⊥) → first_len bs ≡ 0
unfolding first_len
no_first bs other = ap (λ t. cond ((t && slice_index bs 1 == 46) && nat_lt 0 (cell_len (drop 2 bs))) (2 + cell_len (drop 2 bs)) 0) (ne_eqb (slice_index bs 0) 91 other)

-- ---- `]`

pub closed_back : (bs : List ℕ) → (slice_index bs 0 == 93) ≡ true → 93 ∷ drop 1 bs ≡ bs
closed_back [] h = cc
closed_back (b ∷ bs) h = ap (λ x. x ∷ bs) (sym (eqb-true b 93 h))
