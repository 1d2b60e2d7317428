-- Who is found at the blocks that hold a cell's row is who reads the cell.
use Rattle.wi_ranges.proofs.Words.{◌≡◌, ℕ, zero, suc, ◌+◌, ◌^◌, ◌<◌, ◌≤◌, ◌==◌, Bool, true, false, ◌&&◌, ◌||◌, cond, List, [], ◌∷◌, ◌++◌, refl, sym, ap, ◌∙◌, arith, ⊎_elim, nat_lt, nat_le, if◌then◌else◌, list_any, is_at, pow-succ', true≢false, and_parts, and_from, or_left, or_right, cond-true, cond-false, cases_Bool, cases_lt, lt-ltb, ltb-true, ltb-false, le-leb, le-ltb, leb-true, eqb-true, eq-eqb, list_any-append, row_of, is_within, Block, RangePair, block, lies_within, meets, blocks_within, blocks_with, blocks_of, first_row, last_row, Bag, pair_area, count_of, IsReader, Piece, block_cmp, piece_cmp, has_piece, is_among, piece_reads, reads_at, IsIndexed}
use Rattle.wi_ranges.proofs.BlockLemmas.{blocks_within-here}
use Rattle.wi_ranges.proofs.Exact.{block_self, piece_self, same_piece}

-- ---- each row of some rows is in one of their blocks

pub among_first : (x : Block) (xs ys : List Block) → ys ≡ x ∷ xs → is_among x ys ≡ true
among_first x xs ys e = ap (λ (us : List Block). is_among x us) e ∙ or_left (is_at (block_cmp x) x) (is_among x xs) (block_self x)

pub among_upper : (x : Block) (xs ys zs : List Block) → zs ≡ xs ++ ys → is_among x xs ≡ true → is_among x zs ≡ true
among_upper x xs ys zs e h = ap (λ (us : List Block). is_among x us) e ∙ list_any-append (λ y. is_at (block_cmp y) x) xs ys ∙ or_left (is_among x xs) (is_among x ys) h

pub among_lower : (x : Block) (xs ys zs : List Block) → zs ≡ xs ++ ys → is_among x ys ≡ true → is_among x zs ≡ true
among_lower x xs ys zs e h = ap (λ (us : List Block). is_among x us) e ∙ list_any-append (λ y. is_at (block_cmp y) x) xs ys ∙ or_right (is_among x xs) (is_among x ys) h

among_next : (x y : Block) (ys zs : List Block) → zs ≡ y ∷ ys → is_among x ys ≡ true → is_among x zs ≡ true
among_next x y ys zs e h = ap (λ (us : List Block). is_among x us) e ∙ or_right (is_at (block_cmp y) x) (is_among x ys) h

pub halves : (a b k f : ℕ) → lies_within a b (block (suc k) f) ≡ false → meets a b (block (suc k) f) ≡ true
    → blocks_within a b (suc k) f ≡ blocks_within a b k f ++ blocks_within a b k (f + 2 ^ k)
unfolding blocks_within
halves a b k f h m = rw (h, m)

upper_next : (r k f : ℕ) → r < f + 2 ^ k → blocks_with r (suc k) f ≡ block (suc k) f ∷ blocks_with r k f
unfolding blocks_with
upper_next r k f l = ap (λ (g : ℕ). block (suc k) f ∷ blocks_with r k g) (cond-true _ f (f + 2 ^ k) (lt-ltb r (f + 2 ^ k) l))

lower_next : (r k f : ℕ) → f + 2 ^ k ≤ r → blocks_with r (suc k) f ≡ block (suc k) f ∷ blocks_with r k (f + 2 ^ k)
unfolding blocks_with
lower_next r k f l = ap (λ (g : ℕ). block (suc k) f ∷ blocks_with r k g) (cond-false _ f (f + 2 ^ k) (le-ltb r (f + 2 ^ k) l))

pub first_with : (r k f : ℕ) → (xs : List Block) × (blocks_with r k f ≡ block k f ∷ xs)
unfolding blocks_with
first_with r zero f = ([], refl)
first_with r (suc k) f = (blocks_with r k (cond (nat_lt r (f + 2 ^ k)) f (f + 2 ^ k)), refl)

-- a block that is in both lists
abbrev Shared : List Block → List Block → Type 0
Shared xs ys = (x : Block) × (is_among x xs ≡ true) × (is_among x ys ≡ true)

here : (a b r k f : ℕ) → lies_within a b (block k f) ≡ true → Shared (blocks_within a b k f) (blocks_with r k f)
here a b r k f t =
    let rest = first_with r k f in
    (block k f, among_first (block k f) [] _ (blocks_within-here a b k f t), among_first (block k f) rest.0 _ rest.1)

pub covered : (a b r k f : ℕ) → a ≤ r → r ≤ b → f ≤ r → r < f + 2 ^ k → Shared (blocks_within a b k f) (blocks_with r k f)
covered a b r zero f h i j l =
    here a b r 0 f (and_from _ _ (le-leb a f (omega (arith, h, l))) (le-leb (f + 2 ^ 0) (b + 1) (omega (arith, i, j))))
covered a b r (suc k) f h i j l =
    let twice = pow-succ' 2 k in
    let m : meets a b (block (suc k) f) ≡ true = and_from _ _ (lt-ltb a (f + 2 ^ suc k) (omega (arith, h, l))) (le-leb f b (omega (arith, i, j))) in
    ⊎_elim (λ t. here a b r (suc k) f t)
    (λ t. ⊎_elim
    (λ u. let s = covered a b r k f h i j u in
    (s.0, among_upper s.0 _ _ _ (halves a b k f t m) s.1, among_next s.0 (block (suc k) f) _ _ (upper_next r k f u) s.2))
    (λ u. let s = covered a b r k (f + 2 ^ k) h i u (omega (arith, l, twice)) in
    (s.0, among_lower s.0 _ _ _ (halves a b k f t m) s.1, among_next s.0 (block (suc k) f) _ _ (lower_next r k f u) s.2))
    (cases_lt r (f + 2 ^ k)))
    (cases_Bool (lies_within a b (block (suc k) f)))

-- ---- any of the pieces

pub any_gives : (f : Piece → Bool) (ks : List Piece) → list_any f ks ≡ true → (q : Piece) × (f q ≡ true) × (has_piece ks q ≡ true)
any_gives f [] h = absurd (true≢false (sym h))
any_gives f (x ∷ xs) h = by (f x) refl h (any_gives f xs)
  where
    by : (b : Bool) → f x ≡ b → (b || list_any f xs) ≡ true
        → (list_any f xs ≡ true → (q : Piece) × (f q ≡ true) × (has_piece xs q ≡ true))
        → (q : Piece) × (f q ≡ true) × (has_piece (x ∷ xs) q ≡ true)
    by true e g r = (x, e, or_left _ _ (piece_self x))
    by false e g r = let s = r g in (s.0, s.1, or_right _ _ s.2)

pub any_from : (f : Piece → Bool) (ks : List Piece) (q : Piece) → has_piece ks q ≡ true → f q ≡ true → list_any f ks ≡ true
any_from f [] q h e = absurd (true≢false (sym h))
any_from f (x ∷ xs) q h e = by (is_at (piece_cmp q) x) refl h (any_from f xs q)
  where
    by : (b : Bool) → is_at (piece_cmp q) x ≡ b → (b || has_piece xs q) ≡ true
        → (has_piece xs q ≡ true → f q ≡ true → list_any f xs ≡ true) → (f x || list_any f xs) ≡ true
    by true s g r = or_left _ _ (ap f (sym (same_piece q x s)) ∙ e)
    by false s g r = or_right _ _ (r g e)

-- ---- readers

pub reader_found : (bag : Bag) (ks : List Piece) (xs : List Block) (a r : ℕ) → IsIndexed bag ks → list_any (reads_at xs a r) ks ≡ true → IsReader bag a r
reader_found bag ks xs a r i h =
    let s = any_gives (reads_at xs a r) ks h in
    let q = s.0 in
    let reads = (and_parts (is_among q.0 xs) (piece_reads a r q) s.1).1 in
    let p = q.1.pair in
    let parts = and_parts (is_within (pair_area p) a) (p.reader == r) reads in
    let there = (and_parts (nat_lt q.1.number (count_of bag p)) (is_among q.0 (blocks_of p)) (sym (i q) ∙ s.2)).0 in
    let below : q.1.number < count_of bag p = ltb-true q.1.number (count_of bag p) there in
    (p, eqb-true p.reader r parts.1, omega (arith, below), parts.0)

last_at_least : (p : RangePair) (r : ℕ) → r ≤ row_of p.last → r ≤ last_row p
last_at_least p r h = by (nat_lt (row_of p.last) (row_of p.first)) refl
  where
    by : (b : Bool) → nat_lt (row_of p.last) (row_of p.first) ≡ b → r ≤ (if b then row_of p.first else row_of p.last)
    by true e = let l : row_of p.last < row_of p.first = ltb-true (row_of p.last) (row_of p.first) e in omega (arith, h, l)
    by false e = h

pub first_at_most : (p : RangePair) → first_row p ≤ last_row p
first_at_most p = by (nat_lt (row_of p.last) (row_of p.first)) refl
  where
    by : (b : Bool) → nat_lt (row_of p.last) (row_of p.first) ≡ b → row_of p.first ≤ (if b then row_of p.first else row_of p.last)
    by true e = omega arith
    by false e = ltb-false (row_of p.last) (row_of p.first) e

pub found_reader : (bag : Bag) (ks : List Piece) (row a r : ℕ) → row ≡ row_of a → row < 1048576 → IsIndexed bag ks → IsReader bag a r
    → list_any (reads_at (blocks_with row 20 0) a r) ks ≡ true
found_reader bag ks row a r e l i h =
    let p = h.0 in
    let within = and_parts (nat_le (first_row p) (row_of a) && nat_le (row_of a) (row_of p.last)) _ h.3 in
    let rows = and_parts (nat_le (first_row p) (row_of a)) (nat_le (row_of a) (row_of p.last)) within.0 in
    let above : first_row p ≤ row_of a = leb-true (first_row p) (row_of a) rows.0 in
    let below : row_of a ≤ last_row p = last_at_least p (row_of a) (leb-true (row_of a) (row_of p.last) rows.1) in
    let s = covered (first_row p) (last_row p) row 20 0 (omega (arith, e, above)) (omega (arith, e, below)) (omega arith) (omega (arith, l)) in
    any_from (reads_at (blocks_with row 20 0) a r) ks (s.0, record { pair = p; number = 0 })
    (i (s.0, record { pair = p; number = 0 }) ∙ and_from _ _ (lt-ltb 0 (count_of bag p) h.2) s.1)
    (and_from _ _ s.2 (and_from _ _ h.3 (eq-eqb p.reader r h.1)))
