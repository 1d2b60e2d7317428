-- What compares as equal is one.
use Rattle.wi_ranges.proofs.Words.{◌≡◌, ℕ, true, ap, nat_cmp, ordering_then, is_eq, IsTotalOrder, nat_cmp_total, on_total, then_total, tied_itself, is_at, CmpEqualImpliesEq, exact_unsigned, exact_pairs, tells_apart, Block, RangePair, Numbered, pair_cmp, is_same, Piece, block_cmp, numbered_cmp, piece_cmp, is_one}

pub exact_pair : CmpEqualImpliesEq pair_cmp
exact_pair p q h =
    ap (λ (t : ℕ × (ℕ × ℕ)). record { first = t.0; last = t.1.0; reader = t.1.1 })
    (exact_pairs nat_cmp (λ (x y : ℕ × ℕ). ordering_then (nat_cmp x.0 y.0) (nat_cmp x.1 y.1)) exact_unsigned (exact_pairs nat_cmp nat_cmp exact_unsigned exact_unsigned)
    (p.first, (p.last, p.reader)) (q.first, (q.last, q.reader)) h)

pub exact_block : CmpEqualImpliesEq block_cmp
exact_block x y h =
    ap (λ (t : ℕ × ℕ). record { level = t.0; first = t.1 }) (exact_pairs nat_cmp nat_cmp exact_unsigned exact_unsigned (x.level, x.first) (y.level, y.first) h)

exact_numbered : CmpEqualImpliesEq numbered_cmp
exact_numbered m n h = ap (λ (t : RangePair × ℕ). record { pair = t.0; number = t.1 }) (exact_pairs pair_cmp nat_cmp exact_pair exact_unsigned (m.pair, m.number) (n.pair, n.number) h)

pub exact_piece : CmpEqualImpliesEq piece_cmp
exact_piece = exact_pairs block_cmp numbered_cmp exact_block exact_numbered

pub one_is : (m n : Numbered) → is_one m n ≡ true → m ≡ n
one_is m n h = tells_apart exact_numbered m n h

pub same_is : (p q : RangePair) → is_same p q ≡ true → p ≡ q
same_is p q h = tells_apart exact_pair p q h

pub same_piece : (x y : Piece) → is_at (piece_cmp x) y ≡ true → x ≡ y
same_piece x y h = tells_apart exact_piece x y h

-- ---- the order of pieces is total

pub block_total : IsTotalOrder block_cmp
block_total = then_total (on_total (λ (x : Block). x.level) nat_cmp_total) (on_total (λ (x : Block). x.first) nat_cmp_total)

pub pair_total : IsTotalOrder pair_cmp
pair_total = then_total (on_total (λ (p : RangePair). p.first) nat_cmp_total) (then_total (on_total (λ (p : RangePair). p.last) nat_cmp_total) (on_total (λ (p : RangePair). p.reader) nat_cmp_total))

numbered_total : IsTotalOrder numbered_cmp
numbered_total = then_total (on_total (λ (m : Numbered). m.pair) pair_total) (on_total (λ (m : Numbered). m.number) nat_cmp_total)

pub piece_total : IsTotalOrder piece_cmp
piece_total = then_total (on_total (λ (q : Piece). q.0) block_total) (on_total (λ (q : Piece). q.1) numbered_total)

pub same_self : (p : RangePair) → is_same p p ≡ true
same_self p = ap is_eq (tied_itself pair_total p)

pub block_self : (x : Block) → is_at (block_cmp x) x ≡ true
block_self x = ap is_eq (tied_itself block_total x)

pub piece_self : (q : Piece) → is_at (piece_cmp q) q ≡ true
piece_self q = ap is_eq (tied_itself piece_total q)
