-- What is added up over pieces, and over the blocks of a pair.
use Rattle.wi_ranges.proofs.Words.{◌≡◌, ℕ, ◌+◌, ◌*◌, ◌<◌, Bool, true, false, ◌||◌, cond, List, [], ◌∷◌, length, Option, Some, None, refl, sym, ap, ◌∙◌, arith, unwrap_or, is_eq, match_ordering, Ordering, Less, Equal, Greater, lookup, remove_key, sum_by, is_at, insert_key, add-mul, true≢false, sum_by-cons, sum_ones, Block, RangePair, Numbered, blocks_of, first_row, Bag, count_of, is_same, pieces_of, raise, times_held, Gains, Piece, bag_of, has_piece, holds, piece_cmp, stands_first}
use Rattle.wi_ranges.proofs.CutLemmas.{rows_are_held_once}
use Rattle.wi_ranges.proofs.Exact.{same_is, same_piece}
use Rattle.wi_ranges.proofs.Found.{first_at_most}

-- ---- one key more, or less

pub sum_insert : (f : Piece → ℕ) (k : Piece) (ks : List Piece) → has_piece ks k ≡ false → sum_by f (insert_key piece_cmp ks k) ≡ sum_by f ks + f k
sum_insert f k [] h = omega arith
sum_insert f k (x ∷ xs) h = by (piece_cmp k x) h (sum_insert f k xs) ∙ ap (λ n. n + f k) (sym (sum_by-cons f x xs))
  where
    by : (o : Ordering) → (is_eq o || has_piece xs k) ≡ false → (has_piece xs k ≡ false → sum_by f (insert_key piece_cmp xs k) ≡ sum_by f xs + f k)
        → sum_by f (match_ordering o (k ∷ x ∷ xs) (x ∷ xs) (x ∷ insert_key piece_cmp xs k)) ≡ (f x + sum_by f xs) + f k
    by Less e r = let s = sum_by-cons f k (x ∷ xs) in let t = sum_by-cons f x xs in omega (arith, s, t)
    by Equal e r = absurd (true≢false e)
    by Greater e r = let s = sum_by-cons f x (insert_key piece_cmp xs k) in omega (arith, s, r e)

pub sum_remove : (f : Piece → ℕ) (k : Piece) (ks : List Piece) → has_piece ks k ≡ true → sum_by f ks ≡ sum_by f (remove_key (is_at (piece_cmp k)) ks) + f k
sum_remove f k [] h = absurd (true≢false (sym h))
sum_remove f k (x ∷ xs) h = sum_by-cons f x xs ∙ by (is_at (piece_cmp k) x) refl h (sum_remove f k xs)
  where
    by : (b : Bool) → is_at (piece_cmp k) x ≡ b → (b || has_piece xs k) ≡ true → (has_piece xs k ≡ true → sum_by f xs ≡ sum_by f (remove_key (is_at (piece_cmp k)) xs) + f k)
        → f x + sum_by f xs ≡ sum_by f (cond b xs (x ∷ remove_key (is_at (piece_cmp k)) xs)) + f k
    by true s e r = let one : f k ≡ f x = ap f (same_piece k x s) in omega (arith, one)
    by false s e r = let t = sum_by-cons f x (remove_key (is_at (piece_cmp k)) xs) in omega (arith, t, r e)

-- ---- a bag with one more

pub raise_count : (p : RangePair) (bag : Bag) (q : RangePair) → count_of (raise p bag) q ≡ cond (is_same q p) 1 0 + count_of bag q
raise_count p [] q = at (is_same q p)
  where
    at : (b : Bool) → unwrap_or (cond b (Some 1) None) 0 ≡ cond b 1 0 + 0
    at true = refl
    at false = refl
raise_count p (e ∷ es) q = by (is_same p e.0) refl (raise_count p es q)
  where
    here : (b : Bool) (o : Option ℕ) → unwrap_or (cond b (Some (e.1 + 1)) o) 0 ≡ cond b 1 0 + unwrap_or (cond b (Some e.1) o) 0
    here true o = omega arith
    here false o = omega arith

    past : (b c : Bool) → is_same q e.0 ≡ b → is_same q p ≡ c → is_same p e.0 ≡ false → count_of (raise p es) q ≡ cond c 1 0 + count_of es q
        → unwrap_or (cond b (Some e.1) (lookup (is_same q) (raise p es))) 0 ≡ cond c 1 0 + unwrap_or (cond b (Some e.1) (lookup (is_same q) es)) 0
    past true true s t n r = absurd (true≢false (sym s ∙ ap (λ (x : RangePair). is_same x e.0) (same_is q p t) ∙ n))
    past true false s t n r = omega arith
    past false c s t n r = r

    by : (b : Bool) → is_same p e.0 ≡ b → count_of (raise p es) q ≡ cond (is_same q p) 1 0 + count_of es q
        → count_of (cond b ((e.0, e.1 + 1) ∷ es) (e ∷ raise p es)) q ≡ cond (is_same q p) 1 0 + count_of (e ∷ es) q
    by true s r = here (is_same q e.0) (lookup (is_same q) es) ∙ ap (λ (x : RangePair). cond (is_same q x) 1 0 + count_of (e ∷ es) q) (sym (same_is p e.0 s))
    by false s r = past (is_same q e.0) (is_same q p) refl refl s r

pub raise_pieces : (p : RangePair) (bag : Bag) → pieces_of (raise p bag) ≡ length (blocks_of p) + pieces_of bag
raise_pieces p [] = omega arith
raise_pieces p (e ∷ es) = by (is_same p e.0) refl (raise_pieces p es)
  where
    by : (b : Bool) → is_same p e.0 ≡ b → pieces_of (raise p es) ≡ length (blocks_of p) + pieces_of es
        → pieces_of (cond b ((e.0, e.1 + 1) ∷ es) (e ∷ raise p es)) ≡ length (blocks_of p) + (e.1 * length (blocks_of e.0) + pieces_of es)
    by true s r =
        let here : length (blocks_of p) ≡ length (blocks_of e.0) = ap (λ (x : RangePair). length (blocks_of x)) (same_is p e.0 s) in
        let times = add-mul e.1 1 (length (blocks_of e.0)) in
        omega (arith, here, times)
    by false s r = omega (arith, r)

-- ---- what the pieces tell, piece by piece

-- how much a piece adds to the count of the pair p
abbrev pub adds_count : RangePair → Piece → ℕ
adds_count p q = cond (stands_first q) (cond (is_same p q.1.pair) 1 0) 0

abbrev pub adds_pieces : Piece → ℕ
adds_pieces q = cond (stands_first q) (length (blocks_of q.1.pair)) 0

pub count_told : (p : RangePair) (ks : List Piece) → count_of (bag_of ks) p ≡ sum_by (adds_count p) ks
count_told p [] = refl
count_told p (q ∷ qs) = by (stands_first q) (count_told p qs) ∙ sym (sum_by-cons (adds_count p) q qs)
  where
    by : (b : Bool) → count_of (bag_of qs) p ≡ sum_by (adds_count p) qs
        → count_of (cond b (raise q.1.pair (bag_of qs)) (bag_of qs)) p ≡ cond b (cond (is_same p q.1.pair) 1 0) 0 + sum_by (adds_count p) qs
    by true r = raise_count q.1.pair (bag_of qs) p ∙ ap (λ n. cond (is_same p q.1.pair) 1 0 + n) r
    by false r = omega (arith, r)

pub pieces_told : (ks : List Piece) → pieces_of (bag_of ks) ≡ sum_by adds_pieces ks
pieces_told [] = refl
pieces_told (q ∷ qs) = by (stands_first q) (pieces_told qs) ∙ sym (sum_by-cons adds_pieces q qs)
  where
    by : (b : Bool) → pieces_of (bag_of qs) ≡ sum_by adds_pieces qs
        → pieces_of (cond b (raise q.1.pair (bag_of qs)) (bag_of qs)) ≡ cond b (length (blocks_of q.1.pair)) 0 + sum_by adds_pieces qs
    by true r = raise_pieces q.1.pair (bag_of qs) ∙ ap (λ n. length (blocks_of q.1.pair) + n) r
    by false r = omega (arith, r)

-- ---- one block of a pair holds its first row

held_sum : (r c : ℕ) (xs : List Block) → sum_by (λ (x : Block). cond (holds r x) c 0) xs ≡ times_held r xs * c
held_sum r c [] = omega arith
held_sum r c (x ∷ xs) = sum_by-cons (λ (y : Block). cond (holds r y) c 0) x xs ∙ by (holds r x) (held_sum r c xs)
  where
    by : (b : Bool) → sum_by (λ (y : Block). cond (holds r y) c 0) xs ≡ times_held r xs * c
        → cond b c 0 + sum_by (λ (y : Block). cond (holds r y) c 0) xs ≡ (cond b 1 0 + times_held r xs) * c
    by true e = let times = add-mul 1 (times_held r xs) c in omega (arith, e, times)
    by false e = omega (arith, e)

first_once : (p : RangePair) (c : ℕ) → first_row p < 1048576 → sum_by (λ (x : Block). cond (holds (first_row p) x) c 0) (blocks_of p) ≡ c
first_once p c l =
    held_sum (first_row p) c (blocks_of p) ∙ ap (λ n. n * c) ((rows_are_held_once p (first_row p) l).0 (omega arith) (first_at_most p)) ∙ omega arith

-- so a pair has a block
pub has_block : (p : RangePair) → first_row p < 1048576 → 0 < length (blocks_of p)
has_block p l = some (blocks_of p) ((rows_are_held_once p (first_row p) l).0 (omega arith) (first_at_most p))
  where
    some : (xs : List Block) → times_held (first_row p) xs ≡ 1 → 0 < length xs
    some [] h = absurd (omega (arith, h))
    some (x ∷ xs) h = omega arith

-- ---- a pair more, at its blocks

pub gains_count : (m : Numbered) (ks ls : List Piece) → first_row m.pair < 1048576 → Gains (blocks_of m.pair) m ks ls
    → (p : RangePair) → count_of (bag_of ls) p ≡ count_of (bag_of ks) p + cond (is_same p m.pair) 1 0
gains_count m ks ls l g p =
    count_told p ls ∙ g (adds_count p) ∙ ap (λ n. n + sum_by (λ (x : Block). adds_count p (x, m)) (blocks_of m.pair)) (sym (count_told p ks))
    ∙ ap (λ n. count_of (bag_of ks) p + n) (first_once m.pair (cond (is_same p m.pair) 1 0) l)

pub gains_pieces : (m : Numbered) (ks ls : List Piece) → first_row m.pair < 1048576 → Gains (blocks_of m.pair) m ks ls
    → pieces_of (bag_of ls) ≡ pieces_of (bag_of ks) + length (blocks_of m.pair)
gains_pieces m ks ls l g =
    pieces_told ls ∙ g adds_pieces ∙ ap (λ n. n + sum_by (λ (x : Block). adds_pieces (x, m)) (blocks_of m.pair)) (sym (pieces_told ks))
    ∙ ap (λ n. pieces_of (bag_of ks) + n) (first_once m.pair (length (blocks_of m.pair)) l)

pub gains_length : (m : Numbered) (xs : List Block) (ks ls : List Piece) → Gains xs m ks ls → length ls ≡ length ks + length xs
gains_length m xs ks ls g =
    sym (sum_ones ls) ∙ g (λ _. 1) ∙ ap (λ n. n + sum_by (λ (x : Block). 1) xs) (sum_ones ks) ∙ ap (λ n. length ks + n) (sum_ones xs)
