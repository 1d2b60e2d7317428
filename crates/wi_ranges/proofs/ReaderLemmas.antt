-- Laws of the pieces at a block, and of the readers among them.
use Rattle.wi_ranges.proofs.Words.{◌≡◌, ℕ, nat_eq, Bool, true, false, not, ◌&&◌, ◌||◌, cond, List, [], ◌∷◌, ◌==◌, ◌↔◌, filter, refl, sym, ap, subst, ◌∙◌, arith, ⊤, nat_cmp, ordering_then, is_eq, is_le, Ordering, Less, Equal, Greater, Included, Unbounded, list_any, AllByRecursion, IsStrictlySortedBy, is_at, range_contains, true≢false, and_parts, and_from, nat_tests, sorted_head, sorted_tail, or-false, or_assoc, turn_test, is_within, Block, RangePair, Numbered, pair_area, pair_cmp, lowest_pair, block_cmp, numbered_cmp, lowest, Piece, piece_cmp, is_among, piece_reads, reads_at}

-- ---- which pieces come from a block on, and before the next

pub no_later : (a : ℕ) → is_le (nat_cmp 0 a) ≡ true
no_later a = grind (arith, nat_tests)

pub no_later_then : (o p : Ordering) → is_le o ≡ true → is_le p ≡ true → is_le (ordering_then o p) ≡ true
no_later_then Less p h k = refl
no_later_then Equal p h k = k
no_later_then Greater p h k = h

lowest_first : (p : RangePair) → is_le (pair_cmp lowest_pair p) ≡ true
lowest_first p = no_later_then (nat_cmp 0 p.first) _ (no_later p.first) (no_later_then (nat_cmp 0 p.last) _ (no_later p.last) (no_later p.reader))

pub lowest_numbered : (m : Numbered) → is_le (numbered_cmp lowest m) ≡ true
lowest_numbered m = no_later_then (pair_cmp lowest_pair m.pair) _ (lowest_first m.pair) (no_later m.number)

-- a piece at a block comes from its first place on
pub at_or_after : (o p : Ordering) → is_le p ≡ true → is_eq o ≡ true → is_le (ordering_then o p) ≡ true
at_or_after Less p h e = refl
at_or_after Equal p h e = h
at_or_after Greater p h e = absurd (true≢false (sym e))

abbrev pub is_from : Block → Piece → Bool
is_from x q = range_contains piece_cmp (Included (x, lowest)) Unbounded q

from_first : (x : Block) (a r : ℕ) (q : Piece) → reads_at (x ∷ []) a r q ≡ true → is_from x q ≡ true
from_first x a r q h =
    let here = sym (or-false (is_at (block_cmp x) q.0)) ∙ (and_parts (is_among q.0 (x ∷ [])) (piece_reads a r q) h).0 in
    and_from _ true (at_or_after (block_cmp x q.0) _ (lowest_numbered q.1) here) refl

-- what comes after a piece of a later block is of later blocks
pub later : (x k y : Block) (p o : Ordering) → is_le (ordering_then (block_cmp x k) p) ≡ true → is_at (block_cmp x) k ≡ false
    → ordering_then (block_cmp k y) o ≡ Less → is_at (block_cmp x) y ≡ false
later x k y p o h n l = grind (arith, nat_tests)

-- no cell reads one from the block
abbrev pub NoneReads : Block → List Piece → Type 0
NoneReads x qs = (a r : ℕ) → list_any (reads_at (x ∷ []) a r) qs ≡ false

none_behind : (x : Block) (k : Piece) (ys : List Piece) → is_le (piece_cmp (x, lowest) k) ≡ true → is_at (block_cmp x) k.0 ≡ false
    → AllByRecursion (λ y. piece_cmp k y ≡ Less) ys → NoneReads x (filter (is_from x) ys)
none_behind x k [] h n l a r = refl
none_behind x k (y ∷ ys) h n l a r = by (is_from x y) (none_behind x k ys h n l.1 a r)
  where
    by : (b : Bool) → list_any (reads_at (x ∷ []) a r) (filter (is_from x) ys) ≡ false
        → list_any (reads_at (x ∷ []) a r) (cond b (y ∷ filter (is_from x) ys) (filter (is_from x) ys)) ≡ false
    by true e = rw (later x k.0 y.0 _ _ h n l.0) e
    by false e = e

-- those at the block are the first: no cell reads one behind a piece of another
abbrev pub AreFirst : Block → List Piece → Type 0
AreFirst x [] = ⊤
AreFirst x (q ∷ qs) = (is_at (block_cmp x) q.0 ≡ false → NoneReads x qs) × AreFirst x qs

pub come_first : (x : Block) (ks : List Piece) → IsStrictlySortedBy piece_cmp ks → AreFirst x (filter (is_from x) ks)
come_first x [] h = tt
come_first x (k ∷ ks) h = by (is_from x k) refl (come_first x ks (sorted_tail piece_cmp k ks h))
  where
    by : (b : Bool) → is_from x k ≡ b → AreFirst x (filter (is_from x) ks) → AreFirst x (cond b (k ∷ filter (is_from x) ks) (filter (is_from x) ks))
    by true e r = (λ n. none_behind x k ks (and_parts _ true e).0 n (sorted_head piece_cmp k ks h), r)
    by false e r = r

-- ---- any of a filter, any of two tests

-- where what passes a test passes another
pub any_of_filter : {X : Type 0} (t p : X → Bool) (xs : List X) → ((x : X) → p x ≡ true → t x ≡ true) → list_any p (filter t xs) ≡ list_any p xs
any_of_filter t p [] e = refl
any_of_filter t p (x ∷ xs) e = by (t x) (p x) refl refl (any_of_filter t p xs e)
  where
    by : (b d : Bool) → t x ≡ b → p x ≡ d → list_any p (filter t xs) ≡ list_any p xs → list_any p (cond b (x ∷ filter t xs) (filter t xs)) ≡ (p x || list_any p xs)
    by true d f g r = ap (λ b. p x || b) r
    by false true f g r = absurd (true≢false (sym (e x g) ∙ f))
    by false false f g r = r ∙ ap (λ b. b || list_any p xs) (sym g)

shuffle : (a b c d : Bool) → ((a || b) || (c || d)) ≡ ((a || c) || (b || d))
shuffle true b c d = refl
shuffle false true true d = refl
shuffle false true false d = refl
shuffle false false c d = refl

pub any_of_either : {X : Type 0} (f g h : X → Bool) (xs : List X) → ((x : X) → h x ≡ (f x || g x)) → list_any h xs ≡ (list_any f xs || list_any g xs)
any_of_either f g h [] e = refl
any_of_either f g h (x ∷ xs) e = rw (e x, any_of_either f g h xs e) (shuffle (f x) (g x) (list_any f xs) (list_any g xs))

one_more_block : (a b c : Bool) → ((a || b) && c) ≡ (((a || false) && c) || (b && c))
one_more_block true b true = refl
one_more_block true true false = refl
one_more_block true false false = refl
one_more_block false b c = refl

-- the readers at a block and at others
pub readers_more : (x : Block) (xs zs : List Block) (a r : ℕ) (ks : List Piece) (old mid new : Bool) → zs ≡ x ∷ xs
    → mid ≡ (old || list_any (reads_at (x ∷ []) a r) ks) → new ≡ (mid || list_any (reads_at xs a r) ks)
    → new ≡ (old || list_any (reads_at zs a r) ks)
readers_more x xs zs a r ks old mid new e f g =
    g ∙ ap (λ b. b || list_any (reads_at xs a r) ks) f ∙ or_assoc old _ _
    ∙ ap (λ b. old || b) (sym (any_of_either (reads_at (x ∷ []) a r) (reads_at xs a r) (reads_at (x ∷ xs) a r) ks (λ q. one_more_block (is_at (block_cmp x) q.0) (is_among q.0 xs) (piece_reads a r q))))
    ∙ ap (λ (us : List Block). old || list_any (reads_at us a r) ks) (sym e)

-- what the loop has found, where none is left to find
found : (x : Block) (a r : ℕ) (rest all ks : List Piece) (old new : Bool) → all ≡ filter (is_from x) ks → list_any (reads_at (x ∷ []) a r) rest ≡ false
    → (new || list_any (reads_at (x ∷ []) a r) rest) ≡ (old || list_any (reads_at (x ∷ []) a r) all)
    → new ≡ (old || list_any (reads_at (x ∷ []) a r) ks)
found x a r rest all ks old new f none h =
    sym (or-false new) ∙ ap (λ b. new || b) (sym none) ∙ h ∙ ap (λ (us : List Piece). old || list_any (reads_at (x ∷ []) a r) us) f
    ∙ ap (λ b. old || b) (any_of_filter (is_from x) (reads_at (x ∷ []) a r) ks (from_first x a r))

pub found_all : (x : Block) (a r : ℕ) (rest all ks : List Piece) (old new : Bool) → all ≡ filter (is_from x) ks → rest ≡ []
    → (new || list_any (reads_at (x ∷ []) a r) rest) ≡ (old || list_any (reads_at (x ∷ []) a r) all)
    → new ≡ (old || list_any (reads_at (x ∷ []) a r) ks)
found_all x a r rest all ks old new f e h = found x a r rest all ks old new f (ap (λ (us : List Piece). list_any (reads_at (x ∷ []) a r) us) e) h

-- a reader among those from the block on
pub read_here : (x : Block) (a r : ℕ) (all ks : List Piece) → all ≡ filter (is_from x) ks → true ≡ list_any (reads_at (x ∷ []) a r) all → list_any (reads_at (x ∷ []) a r) ks ≡ true
read_here x a r all ks f h =
    sym (any_of_filter (is_from x) (reads_at (x ∷ []) a r) ks (from_first x a r)) ∙ ap (λ (us : List Piece). list_any (reads_at (x ∷ []) a r) us) (sym f) ∙ sym h

-- where no number passes
pub passes_not : (f : ℕ → Bool) (b : Bool) → (b ≡ true ↔ ((r : ℕ) × (f r ≡ true))) → b ≡ false → (r : ℕ) → f r ≡ false
passes_not f b h e r = by (f r) refl
  where
    by : (d : Bool) → f r ≡ d → d ≡ false
    by true g = absurd (true≢false (sym (h.1 (r, g)) ∙ e))
    by false g = refl

pub another : (x y : Block) → true ≡ not (nat_eq y.level x.level && nat_eq y.first x.first) → is_at (block_cmp x) y ≡ false
another x y h = grind (arith, nat_tests)

pub found_to_block : (x : Block) (a r : ℕ) (q : Piece) (qs rest all ks : List Piece) (old new : Bool) → all ≡ filter (is_from x) ks → rest ≡ q ∷ qs
    → true ≡ not (nat_eq q.0.level x.level && nat_eq q.0.first x.first) → AreFirst x rest
    → (new || list_any (reads_at (x ∷ []) a r) rest) ≡ (old || list_any (reads_at (x ∷ []) a r) all)
    → new ≡ (old || list_any (reads_at (x ∷ []) a r) ks)
found_to_block x a r q qs rest all ks old new f e n w h =
    let apart = another x q.0 n in
    found x a r rest all ks old new f
    (ap (λ (us : List Piece). list_any (reads_at (x ∷ []) a r) us) e ∙ ap (λ b. ((b || false) && piece_reads a r q) || list_any (reads_at (x ∷ []) a r) qs) apart
    ∙ (subst (AreFirst x) e w).0 apart a r) h

-- ---- one piece passed

pub first_left : (x : Block) (q : Piece) (qs rest : List Piece) → rest ≡ q ∷ qs → AreFirst x rest → AreFirst x qs
first_left x q qs rest e w = (subst (AreFirst x) e w).1

none_of_both : (b c : Bool) → (b && (false && c)) ≡ false
none_of_both true c = refl
none_of_both false c = refl

-- a piece whose pair doesn't have the cell
pub found_no_more : (x : Block) (a r : ℕ) (q : Piece) (qs rest : List Piece) (now all : Bool) → rest ≡ q ∷ qs → false ≡ is_within (pair_area q.1.pair) a
    → (now || list_any (reads_at (x ∷ []) a r) rest) ≡ all → (now || list_any (reads_at (x ∷ []) a r) qs) ≡ all
found_no_more x a r q qs rest now all e n h =
    ap (λ b. now || (b || list_any (reads_at (x ∷ []) a r) qs)) (sym (ap (λ b. (is_at (block_cmp x) q.0 || false) && (b && (q.1.pair.reader == r))) (sym n) ∙ none_of_both (is_at (block_cmp x) q.0 || false) (q.1.pair.reader == r)))
    ∙ ap (λ (us : List Piece). now || list_any (reads_at (x ∷ []) a r) us) (sym e) ∙ h

pub here : (x y : Block) → false ≡ not (nat_eq y.level x.level && nat_eq y.first x.first) → is_at (block_cmp x) y ≡ true
here x y h = grind (arith, nat_tests)

-- a piece at the block, whose pair has the cell
pub found_one_more : (x : Block) (a r : ℕ) (q : Piece) (qs rest : List Piece) (now new all : Bool) → rest ≡ q ∷ qs
    → false ≡ not (nat_eq q.0.level x.level && nat_eq q.0.first x.first) → true ≡ is_within (pair_area q.1.pair) a → new ≡ (now || r == q.1.pair.reader)
    → (now || list_any (reads_at (x ∷ []) a r) rest) ≡ all → (new || list_any (reads_at (x ∷ []) a r) qs) ≡ all
found_one_more x a r q qs rest now new all e w i n h =
    ap (λ b. b || list_any (reads_at (x ∷ []) a r) qs) (n ∙ ap (λ b. now || b) (turn_test r q.1.pair.reader)) ∙ or_assoc now (q.1.pair.reader == r) _
    ∙ ap (λ b. now || (((b || false) && (true && (q.1.pair.reader == r))) || list_any (reads_at (x ∷ []) a r) qs)) (sym (here x q.0 w))
    ∙ ap (λ b. now || (((is_at (block_cmp x) q.0 || false) && (b && (q.1.pair.reader == r))) || list_any (reads_at (x ∷ []) a r) qs)) i
    ∙ ap (λ (us : List Piece). now || list_any (reads_at (x ∷ []) a r) us) (sym e) ∙ h
