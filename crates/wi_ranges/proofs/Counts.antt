-- How many there are of a pair, by its last piece at one of its blocks.
use Rattle.wi_ranges.proofs.Words.{◌≡◌, ℕ, ◌+◌, ◌*◌, ◌<◌, ◌≤◌, Bool, true, false, ◌&&◌, cond, List, [], ◌∷◌, ◌++◌, length, refl, sym, ap, subst, ◌∙◌, arith, ⊎_elim, nat_lt, Some, unwrap_or, lookup, is_eq, is_gt, is_lt, nat_cmp, ordering_then, Ordering, Less, Equal, Greater, Included, Unbounded, is_at, BTreeSet, IsKeyRangeOf, true≢false, and_parts, and_from, cases_lt, lt-ltb, ltb-true, nat_tests, tied_itself, mul-le, Block, RangePair, blocks_of, Bag, count_of, is_same, pair_cmp, pieces_of, AreWhole, IsIndexed, Piece, bag_of, block_cmp, has_piece, is_among, is_at_block, piece_cmp}
use Rattle.wi_ranges.proofs.Exact.{block_total, pair_total, same_is}

-- ---- the order of the pieces of a pair at a block

-- what lies between two pieces of it is one of it
squeezed : (o s c d : Ordering) → is_lt (ordering_then o (ordering_then s c)) ≡ false → is_gt (ordering_then o (ordering_then s d)) ≡ false → (is_eq o && is_eq s) ≡ true
squeezed Less s c d h k = absurd (true≢false h)
squeezed Greater s c d h k = absurd (true≢false k)
squeezed Equal Less c d h k = absurd (true≢false h)
squeezed Equal Greater c d h k = absurd (true≢false k)
squeezed Equal Equal c d h k = refl

by_number : (o s c : Ordering) → (is_eq o && is_eq s) ≡ true → ordering_then o (ordering_then s c) ≡ c
by_number Less s c h = absurd (true≢false (sym h))
by_number Greater s c h = absurd (true≢false (sym h))
by_number Equal Less c h = absurd (true≢false (sym h))
by_number Equal Greater c h = absurd (true≢false (sym h))
by_number Equal Equal c h = refl

not_above : (j top : ℕ) → j ≤ top → is_gt (nat_cmp j top) ≡ false
not_above j top h = grind (arith, nat_tests)

below_next : (j : ℕ) → is_lt (nat_cmp j (j + 1)) ≡ true
below_next j = grind (arith, nat_tests)

-- the piece of the pair p at the block x, by its number
abbrev numbered : Block → RangePair → ℕ → Piece
numbered x p j = (x, record { pair = p; number = j })

up_to : (x : Block) (p : RangePair) (j top : ℕ) → j ≤ top → is_gt (piece_cmp (numbered x p j) (numbered x p top)) ≡ false
up_to x p j top h =
    ap is_gt (by_number (block_cmp x x) (pair_cmp p p) (nat_cmp j top) (and_from _ _ (ap is_eq (tied_itself block_total x)) (ap is_eq (tied_itself pair_total p)))) ∙ not_above j top h

next_above : (x : Block) (p : RangePair) (k : Piece) → is_at_block x p k ≡ true → is_lt (piece_cmp k (numbered x p (k.1.number + 1))) ≡ true
next_above x p k h = ap is_lt (by_number (block_cmp k.0 x) (pair_cmp k.1.pair p) (nat_cmp k.1.number (k.1.number + 1)) h) ∙ below_next k.1.number

-- ---- which of them there are

there : (ks : List Piece) (x : Block) (p : RangePair) (j : ℕ) → IsIndexed (bag_of ks) ks → is_among x (blocks_of p) ≡ true → j < count_of (bag_of ks) p → has_piece ks (numbered x p j) ≡ true
there ks x p j i a l = i (numbered x p j) ∙ and_from _ _ (lt-ltb j (count_of (bag_of ks) p) l) a

counts : (ks : List Piece) (x : Block) (p : RangePair) (k : Piece) → IsIndexed (bag_of ks) ks → has_piece ks k ≡ true → is_at_block x p k ≡ true → k.1.number < count_of (bag_of ks) p
counts ks x p k i h e =
    let bag = bag_of ks in
    let same = same_is k.1.pair p (and_parts (is_at (block_cmp k.0) x) (is_same k.1.pair p) e).1 in
    let below = ltb-true k.1.number (count_of bag k.1.pair) (and_parts (nat_lt k.1.number (count_of bag k.1.pair)) (is_among k.0 (blocks_of k.1.pair)) (sym (i k) ∙ h)).0 in
    subst (λ (q : RangePair). k.1.number < count_of bag q) same below

-- ---- a pair is there no more often than there are pieces

not_none : (x : Block) (xs : List Block) → is_among x xs ≡ true → 0 < length xs
not_none x [] h = absurd (true≢false (sym h))
not_none x (y ∷ xs) h = omega arith

count_below : (p : RangePair) (bag : Bag) → 0 < length (blocks_of p) → count_of bag p ≤ pieces_of bag
count_below p [] l = omega arith
count_below p (e ∷ es) l = by (is_same p e.0) refl (count_below p es l)
  where
    by : (b : Bool) → is_same p e.0 ≡ b → count_of es p ≤ pieces_of es
        → unwrap_or (cond b (Some e.1) (lookup (is_same p) es)) 0 ≤ e.1 * length (blocks_of e.0) + pieces_of es
    by true s k =
        let here : length (blocks_of p) ≡ length (blocks_of e.0) = ap (λ (x : RangePair). length (blocks_of x)) (same_is p e.0 s) in
        let times : e.1 * 1 ≤ e.1 * length (blocks_of e.0) = mul-le e.1 1 e.1 (length (blocks_of e.0)) (omega arith) (omega (arith, here, l)) in
        omega (arith, times)
    by false s k = omega (arith, k)

few : (ks : List Piece) (x : Block) (p : RangePair) → AreWhole ks → is_among x (blocks_of p) ≡ true → count_of (bag_of ks) p ≤ length ks
few ks x p w a = let most = count_below p (bag_of ks) (not_none x (blocks_of p) a) in omega (arith, most, w.1.1)

-- ---- what a search for the last of them finds

abbrev pub IsUpTo : Block → RangePair → ℕ → BTreeSet Piece → List Piece → Type 0
IsUpTo x p top pieces r = IsKeyRangeOf piece_cmp Unbounded (Included (numbered x p top)) pieces r

pub last_counts : (pieces : BTreeSet Piece) (x : Block) (p : RangePair) (top : ℕ) (r t : List Piece) (k : Piece) → AreWhole pieces.keys → is_among x (blocks_of p) ≡ true
    → IsUpTo x p top pieces r → r ≡ t ++ k ∷ [] → is_at_block x p k ≡ true → k.1.number < length pieces.keys
last_counts pieces x p top r t k w a u e h =
    let below = counts pieces.keys x p k w.0 (u.3 k t e).1 h in
    omega (arith, below, few pieces.keys x p w a)

pub last_number : (pieces : BTreeSet Piece) (x : Block) (p : RangePair) (top : ℕ) (r t : List Piece) (k : Piece) → AreWhole pieces.keys → is_among x (blocks_of p) ≡ true → length pieces.keys ≤ top
    → IsUpTo x p top pieces r → r ≡ t ++ k ∷ [] → is_at_block x p k ≡ true → k.1.number + 1 ≡ count_of (bag_of pieces.keys) p
last_number pieces x p top r t k w a m u e h =
    let n = count_of (bag_of pieces.keys) p in
    let j = k.1.number in
    let below = counts pieces.keys x p k w.0 (u.3 k t e).1 h in
    ⊎_elim
    (λ l. let most = few pieces.keys x p w a in
    absurd (true≢false (sym (next_above x p k h) ∙ u.4 k t e (numbered x p (j + 1)) (tt, up_to x p (j + 1) top (omega (arith, l, most, m))) (there pieces.keys x p (j + 1) w.0 a l))))
    (λ l. omega (arith, l, below))
    (cases_lt (j + 1) n)

pub other_last : (pieces : BTreeSet Piece) (x : Block) (p : RangePair) (top : ℕ) (r t : List Piece) (k : Piece) → AreWhole pieces.keys → is_among x (blocks_of p) ≡ true
    → IsUpTo x p top pieces r → r ≡ t ++ k ∷ [] → is_at_block x p k ≡ false → 0 ≡ count_of (bag_of pieces.keys) p
other_last pieces x p top r t k w a u e h =
    ⊎_elim
    (λ l. let above = u.4 k t e (numbered x p 0) (tt, up_to x p 0 top (omega arith)) (there pieces.keys x p 0 w.0 a l) in
    absurd (true≢false (sym (squeezed (block_cmp k.0 x) (pair_cmp k.1.pair p) (nat_cmp k.1.number 0) (nat_cmp k.1.number top) above (u.3 k t e).0.1) ∙ h)))
    (λ l. omega (arith, l))
    (cases_lt 0 (count_of (bag_of pieces.keys) p))

pub none_last : (pieces : BTreeSet Piece) (x : Block) (p : RangePair) (top : ℕ) (r : List Piece) → AreWhole pieces.keys → is_among x (blocks_of p) ≡ true
    → IsUpTo x p top pieces r → r ≡ [] → 0 ≡ count_of (bag_of pieces.keys) p
none_last pieces x p top r w a u e =
    ⊎_elim
    (λ l. absurd (true≢false (sym (there pieces.keys x p 0 w.0 a l) ∙ u.5 e (numbered x p 0) (tt, up_to x p 0 top (omega arith)))))
    (λ l. omega (arith, l))
    (cases_lt 0 (count_of (bag_of pieces.keys) p))
