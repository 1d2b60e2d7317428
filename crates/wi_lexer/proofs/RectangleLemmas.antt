-- The reference to a rectangle found at the front is one, and each one there is found.
use Rattle.wi_lexer.proofs.Words.{◌≡◌, ℕ, ◌<◌, ◌≤◌, Bool, true, false, cond, ◌==◌, List, [], ◌∷◌, ◌++◌, length, take, drop, Option, Some, None, refl, sym, ap, ap₂, ◌∙◌, subst, arith, append_assoc, length-append, slice_index, eqb-true, and_parts, nat_tests, take-append-drop, same_Some, drop-append_seam, take-append_seam, list_all, is_ascii_digit, is_ascii_alphabetic, is_before_colon, before_colon_len, WrittenCell, IsCell, cell_text, cell_of, cut, inside, reference_len, rectangle_text, IsRectangle, two_cells, begins_second, both_cells, cells_beside, corner_cells, rectangle_of, rectangle_len, ◌+◌, ◌&&◌, nat_lt, ltb-true, lt-ltb, and_from, cell_len, first_len, second_len}
use Rattle.wi_lexer.proofs.RunLemmas.{run_more}
use Rattle.wi_lexer.proofs.CellLemmas.{cell_sound, cell_complete, cell_all, cut_is}
use Rattle.wi_lexer.proofs.BracketLemmas.{bracketed, inside_read, read_back}
use Rattle.wi_lexer.proofs.FrontLemmas.{passed, kept, seam, front_taken, cell_front, cell_whole, cell_found, opened, first_front, first_whole, no_first, closed_back}

letter_before_colon : (b : ℕ) → is_ascii_alphabetic b ≡ true → is_before_colon b ≡ true
letter_before_colon b h = grind (arith, nat_tests)

digit_before_colon : (b : ℕ) → is_ascii_digit b ≡ true → is_before_colon b ≡ true
digit_before_colon b h = grind (arith, nat_tests)

cell_before_colon : (c : WrittenCell) → IsCell c → list_all is_before_colon (cell_text c) ≡ true
cell_before_colon = cell_all is_before_colon letter_before_colon digit_before_colon refl

-- ---- `CELL:.CELL`

abbrev pub beside : WrittenCell → WrittenCell → List ℕ
beside c d = cell_text c ++ 58 ∷ 46 ∷ cell_text d

pub rectangle_is : (c d : WrittenCell) → bracketed (beside c d) ≡ rectangle_text c d
rectangle_is c d = ap bracketed (sym (append_assoc (cell_text c) (58 ∷ 46 ∷ []) (cell_text d)))

both_found : (o p : Option WrittenCell) (c d : WrittenCell) → both_cells o p ≡ Some (c, d) → (o ≡ Some c) × (p ≡ Some d)
both_found None p c d h = cc
both_found (Some a) None c d h = cc
both_found (Some a) (Some b) c d h = let e = same_Some (a, b) (c, d) h in (ap (λ x. Some x.0) e, ap (λ x. Some x.1) e)

second_back : (bs : List ℕ) → begins_second bs ≡ true → 58 ∷ 46 ∷ drop 2 bs ≡ bs
second_back [] h = cc
second_back (a ∷ []) h = let p = and_parts (a == 58) false h in cc
second_back (a ∷ b ∷ bs) h = let p = and_parts (a == 58) (b == 46) h in cc (eqb-true a 58 p.0, eqb-true b 46 p.1)

cells_sound : (bs : List ℕ) (c d : WrittenCell) → corner_cells bs ≡ Some (c, d) → IsCell c × IsCell d × (beside c d ≡ bs)
unfolding corner_cells
cells_sound bs c d h = go (take (before_colon_len bs) bs) (drop (before_colon_len bs) bs) (begins_second (drop (before_colon_len bs) bs)) (take-append-drop (before_colon_len bs) bs) refl h
  where
    go : (first rest : List ℕ) (t : Bool) → first ++ rest ≡ bs → begins_second rest ≡ t → cond t (both_cells (cell_of first) (cell_of (drop 2 rest))) None ≡ Some (c, d) → IsCell c × IsCell d × (beside c d ≡ bs)
    go first rest true whole e f =
        let b = both_found (cell_of first) (cell_of (drop 2 rest)) c d f in
        let p = cell_sound first c b.0 in
        let q = cell_sound (drop 2 rest) d b.1 in
        let tail : 58 ∷ 46 ∷ cell_text d ≡ rest = ap (λ x. 58 ∷ 46 ∷ x) q.1 ∙ second_back rest e in
        (p.0, q.0, ap (λ x. cell_text c ++ x) tail ∙ ap (λ x. x ++ rest) p.1 ∙ whole)
    go first rest false whole e f = cc

cells_complete : (c d : WrittenCell) → IsCell c → IsCell d → corner_cells (beside c d) ≡ Some (c, d)
unfolding corner_cells
cells_complete c d h k =
    let x = cell_text c in
    let rest = 58 ∷ 46 ∷ cell_text d in
    let run = run_more is_before_colon x rest (cell_before_colon c h) in
    let n : before_colon_len (x ++ rest) ≡ length x = omega (arith, run) in
    ap (λ i. cells_beside (take i (x ++ rest)) (drop i (x ++ rest))) n
    ∙ ap (λ t. cells_beside t (drop (length x) (x ++ rest))) (take-append_seam x rest)
    ∙ ap (λ t. cells_beside x t) (drop-append_seam x rest)
    ∙ ap (λ o. both_cells o (cell_of (cell_text d))) (cell_complete c h)
    ∙ ap (λ o. both_cells (Some c) o) (cell_complete d k)

-- ---- in brackets

bracketed_complete : (c d : WrittenCell) → IsCell c → IsCell d → rectangle_of (bracketed (beside c d)) ≡ Some (c, d)
unfolding rectangle_of
bracketed_complete c d h k = inside_read corner_cells (beside c d) ∙ cells_complete c d h k

pub rectangle_of_complete : (c d : WrittenCell) → IsCell c → IsCell d → rectangle_of (rectangle_text c d) ≡ Some (c, d)
rectangle_of_complete c d h k = ap rectangle_of (sym (rectangle_is c d)) ∙ bracketed_complete c d h k

pub rectangle_of_sound : (text : List ℕ) (c d : WrittenCell) → rectangle_of text ≡ Some (c, d) → IsCell c × IsCell d × (rectangle_text c d ≡ text)
unfolding rectangle_of
rectangle_of_sound text c d h =
    let r = read_back corner_cells text (c, d) h in
    let p = cells_sound (inside text) c d r.0 in
    (p.0, p.1, sym (rectangle_is c d) ∙ ap bracketed p.2 ∙ r.1)

-- the bytes inside the brackets, up to the colon and from it on
abbrev pub first_part : List ℕ → List ℕ
first_part text = take (before_colon_len (inside text)) (inside text)

abbrev pub second_part : List ℕ → List ℕ
second_part text = drop (before_colon_len (inside text)) (inside text)

cells_cut : (first rest : List ℕ) (c d : WrittenCell) → cells_beside first rest ≡ Some (c, d) → (both_cells (Some (cut first)) (Some (cut (drop 2 rest))) ≡ Some (c, d)) × (2 ≤ length rest)
cells_cut first rest c d h = go (begins_second rest) refl h
  where
    go : (t : Bool) → begins_second rest ≡ t → cond t (both_cells (cell_of first) (cell_of (drop 2 rest))) None ≡ Some (c, d) → (both_cells (Some (cut first)) (Some (cut (drop 2 rest))) ≡ Some (c, d)) × (2 ≤ length rest)
    go true e f =
        let b = both_found (cell_of first) (cell_of (drop 2 rest)) c d f in
        (ap₂ (λ x y. both_cells (Some x) (Some y)) (cut_is first c b.0) (cut_is (drop 2 rest) d b.1), omega (arith, ap length (second_back rest e)))
    go false e f = cc

both_cut : (c d : WrittenCell) → IsCell c → IsCell d → (both_cells (Some (cut (first_part (rectangle_text c d)))) (Some (cut (drop 2 (second_part (rectangle_text c d))))) ≡ Some (c, d)) × (2 ≤ length (second_part (rectangle_text c d)))
unfolding rectangle_of corner_cells
both_cut c d h k =
    let text = rectangle_text c d in
    cells_cut (first_part text) (second_part text) c d (read_back corner_cells text (c, d) (rectangle_of_complete c d h k)).0

-- a reference to a rectangle is cut into its cells
pub rectangle_cut : (text : List ℕ) → IsRectangle text → rectangle_of text ≡ both_cells (Some (cut (first_part text))) (Some (cut (drop 2 (second_part text))))
rectangle_cut text (two_cells c d h k) = rectangle_of_complete c d h k ∙ sym (both_cut c d h k).0

pub second_long : (text : List ℕ) → IsRectangle text → 2 ≤ length (second_part text)
second_long text (two_cells c d h k) = (both_cut c d h k).1

pub rectangle_long : (text : List ℕ) → IsRectangle text → 3 ≤ length text
rectangle_long text (two_cells c d h k) = let size = ap length (rectangle_is c d) in omega (arith, size, length-append (beside c d) (93 ∷ []))

-- ---- at the front

abbrev closing : WrittenCell → List ℕ
closing d = (58 ∷ 46 ∷ cell_text d) ++ 93 ∷ []

record BeginsSecond (n : ℕ) (bs : List ℕ) : Type 0 where
  cell : WrittenCell
  rest : List ℕ
  is : IsCell cell
  whole : closing cell ++ rest ≡ bs
  size : length (closing cell) ≡ n

second_front : (bs : List ℕ) → 0 < second_len bs → BeginsSecond (second_len bs) bs
unfolding second_len
second_front bs h =
    let inside = drop 2 bs in
    let n = cell_len inside in
    let last = drop (2 + n) bs in
    let p = passed ((begins_second bs && nat_lt 0 n) && slice_index last 0 == 93) (3 + n) h in
    let q = and_parts (begins_second bs && nat_lt 0 n) (slice_index last 0 == 93) p.0 in
    let r = and_parts (begins_second bs) (nat_lt 0 n) q.0 in
    let c = cell_front inside (ltb-true 0 n r.1) in
    let front = 58 ∷ 46 ∷ cell_text c.cell in
    let apart : front ++ c.rest ≡ bs = ap (λ x. 58 ∷ 46 ∷ x) c.whole ∙ second_back bs r.0 in
    let size : length front ≡ 2 + n = omega (arith, c.size) in
    let left : last ≡ c.rest = seam front c.rest bs (2 + n) apart size in
    let long : length (closing c.cell) ≡ 3 + n = omega (arith, length-append front (93 ∷ []), size) in
    record {
      cell = c.cell;
      rest = drop 1 last;
      is = c.is;
      whole = append_assoc front (93 ∷ []) (drop 1 last) ∙ ap (λ x. front ++ x) (closed_back last q.1 ∙ left) ∙ apart;
      size = long ∙ sym p.1;
    }

second_whole : (d : WrittenCell) → IsCell d → (rest : List ℕ) → second_len ((58 ∷ 46 ∷ cell_text d) ++ 93 ∷ rest) ≡ length (58 ∷ 46 ∷ cell_text d) + 1
unfolding second_len
second_whole d h rest =
    let bs = (58 ∷ 46 ∷ cell_text d) ++ 93 ∷ rest in
    let n = cell_len (cell_text d ++ 93 ∷ rest) in
    let whole = cell_whole d h (93 ∷ rest) refl in
    let size : length (58 ∷ 46 ∷ cell_text d) ≡ 2 + n = omega (arith, whole) in
    let left : drop (2 + n) bs ≡ 93 ∷ rest = seam (58 ∷ 46 ∷ cell_text d) (93 ∷ rest) bs (2 + n) refl size in
    let closes : (slice_index (drop (2 + n) bs) 0 == 93) ≡ true = ap (λ x. slice_index x 0 == 93) left in
    let long : 3 + n ≡ length (58 ∷ 46 ∷ cell_text d) + 1 = omega (arith, whole) in
    kept (nat_lt 0 n && slice_index (drop (2 + n) bs) 0 == 93) (3 + n) (and_from (nat_lt 0 n) (slice_index (drop (2 + n) bs) 0 == 93) (cell_found d h (93 ∷ rest) refl) closes)
    ∙ long

-- the first bytes are a reference to a rectangle
pub record BeginsRectangle (n : ℕ) (bs : List ℕ) : Type 0 where
  pub within : n ≤ length bs
  pub is : IsRectangle (take n bs)

pub rectangle_sound : (bs : List ℕ) → 0 < rectangle_len bs → BeginsRectangle (rectangle_len bs) bs
unfolding rectangle_len
rectangle_sound bs h =
    let n = first_len bs in
    let rest = drop n bs in
    let p = passed (nat_lt 0 n && nat_lt 0 (second_len rest)) (n + second_len rest) h in
    let q = and_parts (nat_lt 0 n) (nat_lt 0 (second_len rest)) p.0 in
    let c = first_front bs (ltb-true 0 n q.0) in
    let d = second_front rest (ltb-true 0 (second_len rest) q.1) in
    let left : rest ≡ c.rest = seam (opened c.cell) c.rest bs n c.whole c.size in
    let text = bracketed (beside c.cell d.cell) in
    let apart : text ≡ opened c.cell ++ closing d.cell = append_assoc (opened c.cell) (58 ∷ 46 ∷ cell_text d.cell) (93 ∷ []) in
    let whole : text ++ d.rest ≡ bs =
    ap (λ x. x ++ d.rest) apart ∙ append_assoc (opened c.cell) (closing d.cell) d.rest ∙ ap (λ x. opened c.cell ++ x) (d.whole ∙ left) ∙ c.whole in
    let long : length text ≡ n + second_len rest = ap length apart ∙ length-append (opened c.cell) (closing d.cell) ∙ ap₂ (λ a b. a + b) c.size d.size in
    let front = front_taken text d.rest bs (rectangle_len bs) whole (long ∙ sym p.1) in
    record { within = front.0; is = subst IsRectangle (sym (rectangle_is c.cell d.cell) ∙ sym front.1) (two_cells c.cell d.cell c.is d.is) }

-- what begins with two cells in brackets, cut behind the first
record CutBehindFirst (c d : WrittenCell) (rest bs : List ℕ) : Type 0 where
  size : first_len bs ≡ length (opened c)
  left : drop (first_len bs) bs ≡ (58 ∷ 46 ∷ cell_text d) ++ 93 ∷ rest

cut_behind_first : (c d : WrittenCell) → IsCell c → (rest : List ℕ) → CutBehindFirst c d rest (bracketed (beside c d) ++ rest)
cut_behind_first c d h rest =
    let bs = bracketed (beside c d) ++ rest in
    let tail = (58 ∷ 46 ∷ cell_text d) ++ 93 ∷ rest in
    let apart : bs ≡ opened c ++ tail = append_assoc (91 ∷ 46 ∷ beside c d) (93 ∷ []) rest ∙ append_assoc (opened c) (58 ∷ 46 ∷ cell_text d) (93 ∷ rest) in
    let n : first_len bs ≡ length (opened c) = ap first_len apart ∙ first_whole c h tail refl in
    record { size = n; left = seam (opened c) tail bs (first_len bs) (sym apart) (sym n) }

pub rectangle_complete : (c d : WrittenCell) → IsCell c → IsCell d → (rest : List ℕ) → rectangle_len (bracketed (beside c d) ++ rest) ≡ length (bracketed (beside c d))
unfolding rectangle_len
rectangle_complete c d h k rest =
    let bs = bracketed (beside c d) ++ rest in
    let cuts = cut_behind_first c d h rest in
    let m : second_len (drop (first_len bs) bs) ≡ length (58 ∷ 46 ∷ cell_text d) + 1 = ap second_len cuts.left ∙ second_whole d k rest in
    let first = lt-ltb 0 (first_len bs) (omega (arith, cuts.size)) in
    let second = lt-ltb 0 (second_len (drop (first_len bs) bs)) (omega (arith, m)) in
    let long : length (opened c) + (length (58 ∷ 46 ∷ cell_text d) + 1) ≡ length (bracketed (beside c d)) =
    omega (arith, length-append (91 ∷ 46 ∷ beside c d) (93 ∷ []), length-append (opened c) (58 ∷ 46 ∷ cell_text d)) in
    kept (nat_lt 0 (first_len bs) && nat_lt 0 (second_len (drop (first_len bs) bs))) (first_len bs + second_len (drop (first_len bs) bs))
    (and_from (nat_lt 0 (first_len bs)) (nat_lt 0 (second_len (drop (first_len bs) bs))) first second)
    ∙ ap₂ (λ a b. a + b) cuts.size m ∙ long

pub no_rectangle : (bs : List ℕ) → (slice_index bs 0 ≡ 91 → ⊥) → rectangle_len bs ≡ 0
unfolding rectangle_len
no_rectangle bs other = ap (λ n. cond (nat_lt 0 n && nat_lt 0 (second_len (drop n bs))) (n + second_len (drop n bs)) 0) (no_first bs other)

-- a reference to a rectangle is none to one cell
pub no_reference_len : (c d : WrittenCell) → IsCell c → IsCell d → (rest : List ℕ) → reference_len (bracketed (beside c d) ++ rest) ≡ 0
unfolding reference_len
no_reference_len c d h k rest =
    let bs = bracketed (beside c d) ++ rest in
    let cuts = cut_behind_first c d h rest in
    ap (λ x. cond (nat_lt 0 (first_len bs) && slice_index x 0 == 93) (first_len bs + 1) 0) cuts.left ∙ never (nat_lt 0 (first_len bs))
  where
    never : (t : Bool) → cond (t && false) (first_len (bracketed (beside c d) ++ rest) + 1) 0 ≡ 0
    never true = refl
    never false = refl
