-- Laws of the bag that the pieces tell, and of the pieces of a pair put in or taken out.
use Rattle.wi_ranges.proofs.Words.{◌≡◌, ℕ, ◌+◌, ◌-◌, ◌<◌, ◌≤◌, Bool, true, false, ◌&&◌, cond, not, length, List, refl, sym, ap, subst, ◌∙◌, arith, nat_lt, if◌then◌else◌, nat_cmp, ordering_then, is_eq, Less, Equal, Greater, Ordering, is_at, and-true, IsStrictlySortedBy, true≢false, and_right, and_parts, cond-true, cond-false, ltb-false, lt-ltb, nat_tests, btree_set_from_contains, Block, RangePair, Numbered, blocks_in, blocks_of, first_row, Bag, pair_cmp, is_same, count_of, HasOneMore, HasOneLess, AreWhole, Gains, HasPieces, IsIndexed, KeepsOtherPieces, LacksPieces, Piece, bag_of, has_piece, is_among, is_one, is_piece, piece_cmp, Ok, Err, AllocError, MayAdd, PutsPieces, TakesPieces}
use Rattle.wi_ranges.proofs.Exact.{same_is, same_self, one_is, exact_piece, piece_total}
use Rattle.wi_ranges.proofs.Sums.{gains_count, gains_length, gains_pieces, has_block}

-- ---- one more, or less

same_both : (p q : RangePair) → is_same p q ≡ is_same q p
same_both p q = by (is_same p q) (is_same q p) refl refl
  where
    by : (a b : Bool) → is_same p q ≡ a → is_same q p ≡ b → a ≡ b
    by true true h k = refl
    by false false h k = refl
    by true false h k = absurd (true≢false (sym (same_self p) ∙ ap (λ (x : RangePair). is_same x p) (same_is p q h) ∙ k))
    by false true h k = absurd (true≢false (sym (same_self q) ∙ ap (λ (x : RangePair). is_same x q) (same_is q p k) ∙ h))

pub one_more : (p : RangePair) (old new : Bag) → ((q : RangePair) → count_of new q ≡ count_of old q + cond (is_same q p) 1 0) → HasOneMore p old new
one_more p old new g q = g q ∙ ap (λ b. count_of old q + cond b 1 0) (same_both q p) ∙ by (is_same p q) (count_of old q)
  where
    by : (b : Bool) (n : ℕ) → n + cond b 1 0 ≡ (if b then n + 1 else n)
    by true n = refl
    by false n = omega arith

pub one_less : (p : RangePair) (old new : Bag) → ((q : RangePair) → count_of old q ≡ count_of new q + cond (is_same q p) 1 0) → HasOneLess p old new
one_less p old new g q = by (is_same p q) (count_of old q) (count_of new q) (g q ∙ ap (λ b. count_of new q + cond b 1 0) (same_both q p))
  where
    by : (b : Bool) (n k : ℕ) → n ≡ k + cond b 1 0 → k ≡ (if b then n - 1 else n)
    by true n k e = omega (arith, e)
    by false n k e = omega (arith, e)

pub has_one_more : (m : Numbered) (ks ls : List Piece) → first_row m.pair < 1048576 → Gains (blocks_of m.pair) m ks ls → HasOneMore m.pair (bag_of ks) (bag_of ls)
has_one_more m ks ls l g = one_more m.pair (bag_of ks) (bag_of ls) (gains_count m ks ls l g)

pub has_one_less : (m : Numbered) (ks ls : List Piece) → first_row m.pair < 1048576 → Gains (blocks_of m.pair) m ls ks → HasOneLess m.pair (bag_of ks) (bag_of ls)
has_one_less m ks ls l g = one_less m.pair (bag_of ks) (bag_of ls) (gains_count m ls ks l g)

-- ---- the index

both_equal : (o p : Ordering) → is_eq (ordering_then o p) ≡ (is_eq o && is_eq p)
both_equal Less p = refl
both_equal Equal p = refl
both_equal Greater p = refl

one_parts : (m n : Numbered) → is_one m n ≡ (is_same m.pair n.pair && is_at (nat_cmp m.number) n.number)
one_parts m n = both_equal (pair_cmp m.pair n.pair) (nat_cmp m.number n.number)

-- where the pieces of m are told by w, and the bags tell of other pairs the same
pub indexed_change : (m : Numbered) (w : Bool) (old new : Bag) (ks ls : List Piece) → IsIndexed old ks
    → ((q : Piece) → is_piece (blocks_of m.pair) m q ≡ true → has_piece ls q ≡ w) → KeepsOtherPieces m ks ls
    → (nat_lt m.number (count_of new m.pair) ≡ w)
    → ((n : Numbered) → is_one m n ≡ false → nat_lt n.number (count_of new n.pair) ≡ nat_lt n.number (count_of old n.pair))
    → IsIndexed new ls
indexed_change m w old new ks ls i put kept told others q = by (is_one m q.1) (is_among q.0 (blocks_of m.pair)) refl refl
  where
    by : (b a : Bool) → is_one m q.1 ≡ b → is_among q.0 (blocks_of m.pair) ≡ a
        → has_piece ls q ≡ (nat_lt q.1.number (count_of new q.1.pair) && is_among q.0 (blocks_of q.1.pair))
    by true true h k =
        put q (rw (h, k)) ∙ sym (ap (λ b. b && true) told ∙ and-true w)
        ∙ ap (λ b. nat_lt m.number (count_of new m.pair) && b) (sym k)
        ∙ ap (λ (n : Numbered). nat_lt n.number (count_of new n.pair) && is_among q.0 (blocks_of n.pair)) (one_is m q.1 h)
    by true false h k =
        kept q (rw (h, k)) ∙ i q
        ∙ and_right _ _ (ap (λ (n : Numbered). is_among q.0 (blocks_of n.pair)) (sym (one_is m q.1 h)) ∙ k)
        ∙ sym (and_right _ _ (ap (λ (n : Numbered). is_among q.0 (blocks_of n.pair)) (sym (one_is m q.1 h)) ∙ k))
    by false a h k = kept q (rw h) ∙ i q ∙ ap (λ b. b && is_among q.0 (blocks_of q.1.pair)) (sym (others q.1 h))

-- one number more or less tells of no other number
next_apart : (a n : ℕ) → is_at (nat_cmp n) a ≡ false → nat_lt a (n + 1) ≡ nat_lt a n
next_apart a n h = grind (arith, nat_tests)

never_below : (n : ℕ) → nat_lt n n ≡ false
never_below n = grind (arith, nat_tests)

below_next : (n : ℕ) → nat_lt n (n + 1) ≡ true
below_next n = grind (arith, nat_tests)

-- what two bags tell of a number of a pair, where they have n and n + 1 of p, and as many of each other
same_of_others : (m n : Numbered) (a b : Bag) → is_one m n ≡ false → count_of a m.pair ≡ m.number → count_of b m.pair ≡ m.number + 1
    → (is_same m.pair n.pair ≡ false → count_of b n.pair ≡ count_of a n.pair) → nat_lt n.number (count_of b n.pair) ≡ nat_lt n.number (count_of a n.pair)
same_of_others m n a b h e f g = by (is_same m.pair n.pair) refl (sym (one_parts m n) ∙ h)
  where
    by : (t : Bool) → is_same m.pair n.pair ≡ t → (t && is_at (nat_cmp m.number) n.number) ≡ false
        → nat_lt n.number (count_of b n.pair) ≡ nat_lt n.number (count_of a n.pair)
    by true s k =
        let p = same_is m.pair n.pair s in
        ap (λ c. nat_lt n.number c) (ap (λ (x : RangePair). count_of b x) (sym p) ∙ f) ∙ next_apart n.number m.number k
        ∙ ap (λ c. nat_lt n.number c) (sym e ∙ ap (λ (x : RangePair). count_of a x) p)
    by false s k = ap (λ c. nat_lt n.number c) (g s)

pub indexed_more : (m : Numbered) (old new : Bag) (ks ls : List Piece) → IsIndexed old ks → count_of old m.pair ≡ m.number → HasOneMore m.pair old new
    → HasPieces (blocks_of m.pair) m ls → KeepsOtherPieces m ks ls → IsIndexed new ls
indexed_more m old new ks ls i e more put kept =
    let one : count_of new m.pair ≡ m.number + 1 = more m.pair ∙ cond-true (is_same m.pair m.pair) _ _ (same_self m.pair) ∙ ap (λ c. c + 1) e in
    indexed_change m true old new ks ls i put kept (ap (λ c. nat_lt m.number c) one ∙ below_next m.number)
    (λ n h. same_of_others m n old new h e one (λ s. more n.pair ∙ cond-false (is_same m.pair n.pair) _ _ s))

pub indexed_less : (m : Numbered) (old new : Bag) (ks ls : List Piece) → IsIndexed old ks → count_of old m.pair ≡ m.number + 1 → HasOneLess m.pair old new
    → LacksPieces (blocks_of m.pair) m ls → KeepsOtherPieces m ks ls → IsIndexed new ls
indexed_less m old new ks ls i e less taken kept =
    let one : count_of new m.pair ≡ m.number = less m.pair ∙ cond-true (is_same m.pair m.pair) _ _ (same_self m.pair) ∙ ap (λ c. c - 1) e ∙ omega arith in
    indexed_change m false old new ks ls i taken kept (ap (λ c. nat_lt m.number c) one ∙ never_below m.number)
    (λ n h. sym (same_of_others m n new old h one e (λ s. sym (less n.pair ∙ cond-false (is_same m.pair n.pair) _ _ s))))

pub indexed_back : (m : Numbered) (bag : Bag) (ks ls : List Piece) → IsIndexed bag ks → count_of bag m.pair ≡ m.number
    → LacksPieces (blocks_of m.pair) m ls → KeepsOtherPieces m ks ls → IsIndexed bag ls
indexed_back m bag ks ls i e taken kept =
    indexed_change m false bag bag ks ls i taken kept (ap (λ c. nat_lt m.number c) e ∙ never_below m.number) (λ n h. refl)

-- ---- which pieces there are of the last of equal pairs, and of the next

piece_of_m : (m : Numbered) (bag : Bag) (ks : List Piece) (w : Bool) → IsIndexed bag ks → nat_lt m.number (count_of bag m.pair) ≡ w
    → (q : Piece) → is_piece (blocks_of m.pair) m q ≡ true → has_piece ks q ≡ w
piece_of_m m bag ks w i e q h =
    let parts = and_parts (is_one m q.1) (is_among q.0 (blocks_of m.pair)) h in
    i q ∙ sym (ap (λ (n : Numbered). nat_lt n.number (count_of bag n.pair) && is_among q.0 (blocks_of n.pair)) (one_is m q.1 parts.0))
    ∙ ap (λ b. nat_lt m.number (count_of bag m.pair) && b) parts.1 ∙ and-true _ ∙ e

pub lacks_next : (m : Numbered) (bag : Bag) (ks : List Piece) → IsIndexed bag ks → count_of bag m.pair ≡ m.number → LacksPieces (blocks_of m.pair) m ks
lacks_next m bag ks i e = piece_of_m m bag ks false i (ap (λ c. nat_lt m.number c) e ∙ never_below m.number)

pub has_last : (m : Numbered) (bag : Bag) (ks : List Piece) → IsIndexed bag ks → count_of bag m.pair ≡ m.number + 1 → HasPieces (blocks_of m.pair) m ks
has_last m bag ks i e = piece_of_m m bag ks true i (ap (λ c. nat_lt m.number c) e ∙ below_next m.number)

-- an index of the same bag has the same pieces
pub same_pieces : (bag : Bag) (ks ls : List Piece) → IsIndexed bag ks → IsIndexed bag ls → IsStrictlySortedBy piece_cmp ks → IsStrictlySortedBy piece_cmp ls → ks ≡ ls
same_pieces bag ks ls i j s t = btree_set_from_contains piece_total (record { keys = ks }) (record { keys = ls }) s t (λ q. i q ∙ sym (j q)) exact_piece

-- ---- a pair put in or taken out at its blocks, all of which a block has

others_kept : (m : Numbered) (x : Block) (ks ls : List Piece) → blocks_in m.pair x ≡ blocks_of m.pair
    → ((q : Piece) → is_piece (blocks_in m.pair x) m q ≡ false → has_piece ls q ≡ has_piece ks q) → KeepsOtherPieces m ks ls
others_kept m x ks ls e h = subst (λ (zs : List Block). (q : Piece) → is_piece zs m q ≡ false → has_piece ls q ≡ has_piece ks q) e h

lacks_all : (m : Numbered) (x : Block) (ls : List Piece) → blocks_in m.pair x ≡ blocks_of m.pair → LacksPieces (blocks_in m.pair x) m ls → LacksPieces (blocks_of m.pair) m ls
lacks_all m x ls e h = subst (λ (zs : List Block). LacksPieces zs m ls) e h

pub gained : (m : Numbered) (x : Block) (ks ls : List Piece) → blocks_in m.pair x ≡ blocks_of m.pair → AreWhole ks → count_of (bag_of ks) m.pair ≡ m.number
    → (LacksPieces (blocks_in m.pair x) m ks → Gains (blocks_in m.pair x) m ks ls) → Gains (blocks_of m.pair) m ks ls
gained m x ks ls e w n g =
    subst (λ (zs : List Block). Gains zs m ks ls) e (g (subst (λ (zs : List Block). LacksPieces zs m ks) (sym e) (lacks_next m (bag_of ks) ks w.0 n)))

pub lost : (m : Numbered) (x : Block) (ks ls : List Piece) → blocks_in m.pair x ≡ blocks_of m.pair → AreWhole ks → count_of (bag_of ks) m.pair ≡ m.number + 1
    → (HasPieces (blocks_in m.pair x) m ks → Gains (blocks_in m.pair x) m ls ks) → Gains (blocks_of m.pair) m ls ks
lost m x ks ls e w n g =
    subst (λ (zs : List Block). Gains zs m ls ks) e (g (subst (λ (zs : List Block). HasPieces zs m ks) (sym e) (has_last m (bag_of ks) ks w.0 n)))

pub whole_more : {u : Unit {0}} (m : Numbered) (x : Block) (ks ls : List Piece) → blocks_in m.pair x ≡ blocks_of m.pair → first_row m.pair < 1048576 → AreWhole ks → count_of (bag_of ks) m.pair ≡ m.number
    → Gains (blocks_of m.pair) m ks ls → PutsPieces (blocks_in m.pair x) m (Ok u) ks ls → AreWhole ls
whole_more m x ks ls e l w n g p =
    let long = gains_length m (blocks_of m.pair) ks ls g in (
      indexed_more m (bag_of ks) (bag_of ls) ks ls w.0 n (has_one_more m ks ls l g) (subst (λ (zs : List Block). HasPieces zs m ls) e p.put) (others_kept m x ks ls e p.kept),
      (p.order w.1.0, omega (arith, w.1.1, long, gains_pieces m ks ls l g)),
    )

pub whole_less : (m : Numbered) (x : Block) (ks ls : List Piece) → blocks_in m.pair x ≡ blocks_of m.pair → first_row m.pair < 1048576 → AreWhole ks → count_of (bag_of ks) m.pair ≡ m.number + 1
    → TakesPieces (blocks_in m.pair x) m ks ls → AreWhole ls
whole_less m x ks ls e l w n t =
    let g = lost m x ks ls e w n t.loses in
    let long = gains_length m (blocks_of m.pair) ls ks g in (
      indexed_less m (bag_of ks) (bag_of ls) ks ls w.0 n (has_one_less m ks ls l g) (lacks_all m x ls e t.taken) (others_kept m x ks ls e t.kept),
      (t.order w.1.0, omega (arith, w.1.1, long, gains_pieces m ls ks l g)),
    )

-- ---- a pair added by a number, where there may be one of this number

next_count : (j n : ℕ) → j ≤ n → nat_lt j n ≡ false → n ≡ j
next_count j n l h = let k : n ≤ j = ltb-false j n h in omega (arith, l, k)

all_there : (m : Numbered) (x : Block) (ks : List Piece) → blocks_in m.pair x ≡ blocks_of m.pair → AreWhole ks → nat_lt m.number (count_of (bag_of ks) m.pair) ≡ true → HasPieces (blocks_in m.pair x) m ks
all_there m x ks e w h = subst (λ (zs : List Block). HasPieces zs m ks) (sym e) (piece_of_m m (bag_of ks) ks true w.0 h)

-- what is put in where it is already changes nothing
stays : {u : Unit {0}} (m : Numbered) (x : Block) (ks ls : List Piece) → AreWhole ks → HasPieces (blocks_in m.pair x) m ks → PutsPieces (blocks_in m.pair x) m (Ok u) ks ls → ls ≡ ks
stays m x ks ls w has p = btree_set_from_contains piece_total (record { keys = ls }) (record { keys = ks }) (p.order w.1.0) w.1.0 same exact_piece
  where
    by : (q : Piece) (b : Bool) → is_piece (blocks_in m.pair x) m q ≡ b → has_piece ls q ≡ has_piece ks q
    by q true h = p.stays q (has q h) ∙ sym (has q h)
    by q false h = p.kept q h

    same : (q : Piece) → has_piece ls q ≡ has_piece ks q
    same q = by q (is_piece (blocks_in m.pair x) m q) refl

pub refused : {y : AllocError} (m : Numbered) (x : Block) (ks ls us : List Piece) → MayAdd m x ks → PutsPieces (blocks_in m.pair x) m (Err y) ks ls → TakesPieces (blocks_in m.pair x) m ls us → us ≡ ks
refused m x ks ls us may p t = by (nat_lt m.number (count_of (bag_of ks) m.pair)) refl
  where
    by : (b : Bool) → nat_lt m.number (count_of (bag_of ks) m.pair) ≡ b → us ≡ ks
    by true h = absurd (p.absent (all_there m x ks may.blocks may.whole h))
    by false h =
        let w = may.whole in
        let n = next_count m.number (count_of (bag_of ks) m.pair) may.number h in
        let i = indexed_back m (bag_of ks) ks us w.0 n (lacks_all m x us may.blocks t.taken) (λ q o. others_kept m x ls us may.blocks t.kept q o ∙ others_kept m x ks ls may.blocks p.kept q o) in
        sym (same_pieces (bag_of ks) ks us w.0 i w.1.0 (t.order (p.order w.1.0)))

-- what is known once the pair m is put in: whether it was next, by the lengths, and what the bag is
pub record IsPut (m : Numbered) (ks ls : List Piece) : Type 0 where
  pub longer : nat_lt (length ks) (length ls) ≡ not (nat_lt m.number (count_of (bag_of ks) m.pair))
  pub more : nat_lt (length ks) (length ls) ≡ true → HasOneMore m.pair (bag_of ks) (bag_of ls)
  pub same : nat_lt (length ks) (length ls) ≡ false → bag_of ls ≡ bag_of ks
  pub whole : AreWhole ls

pub put : {u : Unit {0}} (m : Numbered) (x : Block) (ks ls : List Piece) → MayAdd m x ks → PutsPieces (blocks_in m.pair x) m (Ok u) ks ls → IsPut m ks ls
put m x ks ls may p = by (nat_lt m.number (count_of (bag_of ks) m.pair)) refl
  where
    by : (b : Bool) → nat_lt m.number (count_of (bag_of ks) m.pair) ≡ b → IsPut m ks ls
    by true h =
        let s = stays m x ks ls may.whole (all_there m x ks may.blocks may.whole h) p in
        let short : nat_lt (length ks) (length ls) ≡ false = ap (λ (us : List Piece). nat_lt (length ks) (length us)) s ∙ never_below (length ks) in
        record {
          longer = short ∙ sym (ap not h);
          more = λ t. absurd (true≢false (sym t ∙ short));
          same = λ t. ap bag_of s;
          whole = subst AreWhole (sym s) may.whole;
        }
    by false h =
        let n = next_count m.number (count_of (bag_of ks) m.pair) may.number h in
        let g = gained m x ks ls may.blocks may.whole n p.gains in
        let long : length ks < length ls = omega (arith, gains_length m (blocks_of m.pair) ks ls g, has_block m.pair may.row) in
        let grows : nat_lt (length ks) (length ls) ≡ true = lt-ltb (length ks) (length ls) long in
        record {
          longer = grows ∙ sym (ap not h);
          more = λ t. has_one_more m ks ls may.row g;
          same = λ t. absurd (true≢false (sym grows ∙ t));
          whole = whole_more m x ks ls may.blocks may.row may.whole n g p;
        }
