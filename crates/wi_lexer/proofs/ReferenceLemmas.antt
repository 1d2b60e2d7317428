-- The reference found at the front is one, and each reference there is found.
use Rattle.wi_lexer.proofs.Words.{◌≡◌, ℕ, ◌+◌, ◌<◌, ◌≤◌, true, cond, ◌&&◌, ◌==◌, List, [], ◌∷◌, ◌++◌, length, take, drop, Some, refl, sym, ap, ◌∙◌, subst, arith, append_assoc, length-append, nat_lt, slice_index, ltb-true, lt-ltb, and_parts, and_from, WrittenCell, IsCell, cell_text, cell_of, cut, IsReference, one_cell, inside, reference_of, first_len, reference_len}
use Rattle.wi_lexer.proofs.CellLemmas.{cell_sound, cell_complete, cut_is}
use Rattle.wi_lexer.proofs.BracketLemmas.{bracketed, inside_read, read_back}
use Rattle.wi_lexer.proofs.FrontLemmas.{passed, kept, seam, front_taken, opened, first_front, first_whole, no_first, closed_back}

pub reference_of_complete : (c : WrittenCell) → IsCell c → reference_of (bracketed (cell_text c)) ≡ Some c
unfolding reference_of
reference_of_complete c h = inside_read cell_of (cell_text c) ∙ cell_complete c h

pub reference_of_sound : (text : List ℕ) (c : WrittenCell) → reference_of text ≡ Some c → IsCell c × (bracketed (cell_text c) ≡ text)
unfolding reference_of
reference_of_sound text c h =
    let r = read_back cell_of text c h in
    let p = cell_sound (inside text) c r.0 in
    (p.0, ap bracketed p.1 ∙ r.1)

-- a reference is cut into its cell
pub reference_cut : (text : List ℕ) → IsReference text → reference_of text ≡ Some (cut (inside text))
unfolding reference_of
reference_cut text (one_cell c h) =
    let whole = reference_of_complete c h in
    whole ∙ ap Some (sym (cut_is (inside text) c (read_back cell_of text c whole).0))

pub reference_long : (text : List ℕ) → IsReference text → 3 ≤ length text
reference_long text (one_cell c h) = omega (arith, length-append (cell_text c) (93 ∷ []))

-- ---- at the front

-- the first bytes are a reference
pub record BeginsReference (n : ℕ) (bs : List ℕ) : Type 0 where
  pub within : n ≤ length bs
  pub is : IsReference (take n bs)

pub reference_sound : (bs : List ℕ) → 0 < reference_len bs → BeginsReference (reference_len bs) bs
unfolding reference_len
reference_sound bs h =
    let n = first_len bs in
    let rest = drop n bs in
    let p = passed (nat_lt 0 n && slice_index rest 0 == 93) (n + 1) h in
    let q = and_parts (nat_lt 0 n) (slice_index rest 0 == 93) p.0 in
    let c = first_front bs (ltb-true 0 n q.0) in
    let left : rest ≡ c.rest = seam (opened c.cell) c.rest bs n c.whole c.size in
    let whole : bracketed (cell_text c.cell) ++ drop 1 rest ≡ bs =
    append_assoc (opened c.cell) (93 ∷ []) (drop 1 rest) ∙ ap (λ x. opened c.cell ++ x) (closed_back rest q.1 ∙ left) ∙ c.whole in
    let long : length (bracketed (cell_text c.cell)) ≡ n + 1 = length-append (opened c.cell) (93 ∷ []) ∙ ap (λ k. k + 1) c.size in
    let front = front_taken (bracketed (cell_text c.cell)) (drop 1 rest) bs (reference_len bs) whole (long ∙ sym p.1) in
    record { within = front.0; is = subst IsReference (sym front.1) (one_cell c.cell c.is) }

pub reference_complete : (c : WrittenCell) → IsCell c → (rest : List ℕ) → reference_len (bracketed (cell_text c) ++ rest) ≡ length (bracketed (cell_text c))
unfolding reference_len
reference_complete c h rest =
    let bs = bracketed (cell_text c) ++ rest in
    let apart : bs ≡ opened c ++ 93 ∷ rest = append_assoc (opened c) (93 ∷ []) rest in
    let n : first_len bs ≡ length (opened c) = ap first_len apart ∙ first_whole c h (93 ∷ rest) refl in
    let left : drop (first_len bs) bs ≡ 93 ∷ rest = seam (opened c) (93 ∷ rest) bs (first_len bs) (sym apart) (sym n) in
    let first = lt-ltb 0 (first_len bs) (omega (arith, n)) in
    let closes : (slice_index (drop (first_len bs) bs) 0 == 93) ≡ true = ap (λ x. slice_index x 0 == 93) left in
    kept (nat_lt 0 (first_len bs) && slice_index (drop (first_len bs) bs) 0 == 93) (first_len bs + 1)
    (and_from (nat_lt 0 (first_len bs)) (slice_index (drop (first_len bs) bs) 0 == 93) first closes)
    ∙ ap (λ k. k + 1) n ∙ sym (length-append (opened c) (93 ∷ []))

pub no_reference : (bs : List ℕ) → (slice_index bs 0 ≡ 91 → ⊥) → reference_len bs ≡ 0
unfolding reference_len
no_reference bs other = ap (λ n. cond (nat_lt 0 n && slice_index (drop n bs) 0 == 93) (n + 1) 0) (no_first bs other)
