-- The cells of a rectangle by their places.
use Rattle.wi_lookup_functions.proofs.Words.{◌≡◌, ℕ, zero, suc, ◌<◌, ◌+◌, ◌*◌, List, [], ◌∷◌, ◌++◌, map, length, Option, Some, refl, ap, ◌∙◌, arith, slice_get, unwrap_or, option_map, range_with_len, suc-mul, slice_get-map, length-append, length-map-range_with_len, Area, cells_of, place, row_of, column_of, Value, Fault, BadReference, block, run, region_of, cell_in, height, width}

in_run : (row a n k : ℕ) → k < n → slice_get (run row a n) k ≡ Some (place row (a + k))
in_run row a zero k h = absurd (omega (arith, h))
in_run row a (suc n) zero h = let e : a ≡ a + 0 = omega arith in ap (λ (i : ℕ). Some (place row i)) e
in_run row a (suc n) (suc k) h = let e : (a + 1) + k ≡ a + suc k = omega arith in in_run row (a + 1) n k (omega (arith, h)) ∙ ap (λ (i : ℕ). Some (place row i)) e

past_front : (xs ys : List ℕ) (k : ℕ) → slice_get (xs ++ ys) (length xs + k) ≡ slice_get ys k
past_front [] ys k = let e : 0 + k ≡ k = omega arith in ap (λ (i : ℕ). slice_get ys i) e
past_front (x ∷ xs) ys k = let e : suc (length xs) + k ≡ suc (length xs + k) = omega arith in ap (λ (i : ℕ). slice_get (x ∷ (xs ++ ys)) i) e ∙ past_front xs ys k

in_front : (xs ys : List ℕ) (k x : ℕ) → slice_get xs k ≡ Some x → slice_get (xs ++ ys) k ≡ Some x
in_front [] ys k x h = cc
in_front (z ∷ xs) ys zero x h = h
in_front (z ∷ xs) ys (suc k) x h = in_front xs ys k x h

pub in_block : (row h a n i k : ℕ) → i < h → k < n → slice_get (block row h a n) (i * n + k) ≡ Some (place (row + i) (a + k))
in_block row zero a n i k l m = absurd (omega (arith, l))
in_block row (suc h) a n zero k l m =
    let first : 0 * n + k ≡ k = omega arith in
    let same : row ≡ row + 0 = omega arith in
    ap (λ (j : ℕ). slice_get (block row (suc h) a n) j) first
    ∙ in_front (run row a n) (block (row + 1) h a n) k (place row (a + k)) (in_run row a n k m)
    ∙ ap (λ (j : ℕ). Some (place j (a + k))) same
in_block row (suc h) a n (suc i) k l m =
    let count : length (run row a n) ≡ n = length-map-range_with_len (place row) a n in
    let past : suc i * n + k ≡ length (run row a n) + (i * n + k) = omega (arith, suc-mul i n, count) in
    let same : (row + 1) + i ≡ row + suc i = omega arith in
    ap (λ (j : ℕ). slice_get (block row (suc h) a n) j) past
    ∙ past_front (run row a n) (block (row + 1) h a n) (i * n + k)
    ∙ in_block (row + 1) h a n i k (omega (arith, l)) m
    ∙ ap (λ (j : ℕ). Some (place j (a + k))) same

-- the cell at a row and a column of a rectangle
pub cell_at : (cells : ℕ → Value) (r : Area) (i k : ℕ) → i < height r → k < width r → cell_in (region_of cells r) i k ≡ cells (place (row_of r.first + i) (column_of r.first + k))
cell_at cells r i k l m =
    ap (λ (o : Option Value). unwrap_or o (Fault BadReference)) (slice_get-map cells (cells_of r) (i * width r + k) ∙ ap (option_map cells) (in_block (row_of r.first) (height r) (column_of r.first) (width r) i k l m))

-- ---- all of a list of cells

pub length-block : (row h a n : ℕ) → length (block row h a n) ≡ h * n
length-block row zero a n = let none : 0 ≡ 0 * n = omega arith in none
length-block row (suc h) a n =
    let front : length (run row a n) ≡ n = length-map-range_with_len (place row) a n in
    let rest : length (block (row + 1) h a n) ≡ h * n = length-block (row + 1) h a n in
    length-append (run row a n) (block (row + 1) h a n) ∙ omega (arith, suc-mul h n, front, rest)

-- the values of cells, counted from s
pub counted_from : (cells f : ℕ → Value) (xs : List ℕ) (s : ℕ) → ((i : ℕ) → i < length xs → option_map cells (slice_get xs i) ≡ Some (f (s + i))) → map f (range_with_len s (length xs)) ≡ map cells xs
counted_from cells f [] s e = refl
counted_from cells f (x ∷ xs) s e =
    let here : Some (cells x) ≡ Some (f (s + 0)) = e 0 (omega arith) in
    let same : f (s + 0) ≡ cells x = cc in
    let start : s ≡ s + 0 = omega arith in
    ap (λ (v : Value). v ∷ map f (range_with_len (s + 1) (length xs))) (ap f start ∙ same)
    ∙ ap (λ (vs : List Value). cells x ∷ vs) (counted_from cells f xs (s + 1) (λ i l. let next : s + suc i ≡ (s + 1) + i = omega arith in e (suc i) (omega (arith, l)) ∙ ap (λ (j : ℕ). Some (f j)) next))
