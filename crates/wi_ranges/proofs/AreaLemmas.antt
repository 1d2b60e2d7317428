-- Laws of the pieces from a place on, of which those that pass a test come first.
use Rattle.wi_ranges.proofs.Words.{◌≡◌, ℕ, ◌==◌, Bool, true, false, ◌&&◌, ◌||◌, cond, List, [], ◌∷◌, filter, refl, sym, ap, subst, ◌∙◌, arith, ⊤, nat_cmp, ordering_then, is_eq, is_le, Ordering, Less, Equal, Greater, Included, Unbounded, list_any, AllByRecursion, IsStrictlySortedBy, is_at, range_contains, true≢false, and_parts, and_from, or_from, eqb-true, eq-eqb, nat_tests, sorted_head, sorted_tail, or-false, or_assoc, turn_test, tells_apart, Block, RangePair, pair_area, block_cmp, numbered_cmp, lowest, Area, Piece, piece_cmp}
use Rattle.wi_ranges.specs.Inner.Telling.{is_same_area, stands_for, reads_for, first_for}
use Rattle.wi_ranges.proofs.ReaderLemmas.{any_of_filter, at_or_after, lowest_numbered, later, no_later, no_later_then}
use Rattle.wi_ranges.proofs.Exact.{exact_block}
use Rattle.wi_ranges.proofs.Found.{any_gives, any_from}

-- ---- those that pass a test come first

abbrev pub from_place : Piece → Piece → Bool
from_place s q = range_contains piece_cmp (Included s) Unbounded q

abbrev pub ComeFirst : (Piece → Bool) → List Piece → Type 0
ComeFirst t [] = ⊤
ComeFirst t (q ∷ qs) = (t q ≡ false → list_any t qs ≡ false) × ComeFirst t qs

-- from the place on, nothing behind one that doesn't pass does
abbrev pub IsRun : Piece → (Piece → Bool) → Type 0
IsRun s t = (k y : Piece) → is_le (piece_cmp s k) ≡ true → t k ≡ false → piece_cmp k y ≡ Less → t y ≡ false

none_after : (s : Piece) (t : Piece → Bool) (k : Piece) (ys : List Piece) → IsRun s t → is_le (piece_cmp s k) ≡ true → t k ≡ false
    → AllByRecursion (λ y. piece_cmp k y ≡ Less) ys → list_any t (filter (from_place s) ys) ≡ false
none_after s t k [] e h n l = refl
none_after s t k (y ∷ ys) e h n l = by (from_place s y) (none_after s t k ys e h n l.1)
  where
    by : (b : Bool) → list_any t (filter (from_place s) ys) ≡ false → list_any t (cond b (y ∷ filter (from_place s) ys) (filter (from_place s) ys)) ≡ false
    by true i = or_from (t y) (list_any t (filter (from_place s) ys)) (e k y h n l.0) i
    by false i = i

pub come_first_by : (s : Piece) (t : Piece → Bool) (ks : List Piece) → IsRun s t → IsStrictlySortedBy piece_cmp ks → ComeFirst t (filter (from_place s) ks)
come_first_by s t [] e h = tt
come_first_by s t (k ∷ ks) e h = by (from_place s k) refl (come_first_by s t ks e (sorted_tail piece_cmp k ks h))
  where
    by : (b : Bool) → from_place s k ≡ b → ComeFirst t (filter (from_place s) ks) → ComeFirst t (cond b (k ∷ filter (from_place s) ks) (filter (from_place s) ks))
    by true f r = (λ n. none_after s t k ks e (and_parts _ true f).0 n (sorted_head piece_cmp k ks h), r)
    by false f r = r

pub rest_first : (t : Piece → Bool) (q : Piece) (qs rest : List Piece) → rest ≡ q ∷ qs → ComeFirst t rest → ComeFirst t qs
rest_first t q qs rest e w = (subst (ComeFirst t) e w).1

pub none_behind_it : (t : Piece → Bool) (q : Piece) (qs rest : List Piece) → rest ≡ q ∷ qs → t q ≡ false → ComeFirst t rest → list_any t qs ≡ false
none_behind_it t q qs rest e n w = (subst (ComeFirst t) e w).0 n

pub none_of_part : (t f : Piece → Bool) (qs : List Piece) → ((q : Piece) → f q ≡ true → t q ≡ true) → list_any t qs ≡ false → list_any f qs ≡ false
none_of_part t f qs e n = by (list_any f qs) refl
  where
    by : (b : Bool) → list_any f qs ≡ b → b ≡ false
    by true g = let s = any_gives f qs g in absurd (true≢false (sym (any_from t qs s.0 s.2 (e s.0 s.1)) ∙ n))
    by false g = refl

-- ---- the pieces at a block

abbrev pub at_block : Block → Piece → Bool
at_block x q = is_at (block_cmp x) q.0

pub block_run : (x : Block) → IsRun (x, lowest) (at_block x)
block_run x k y h n l = later x k.0 y.0 _ _ h n l

pub from_block : (x : Block) (q : Piece) → at_block x q ≡ true → from_place (x, lowest) q ≡ true
from_block x q h = and_from _ true (at_or_after (block_cmp x q.0) _ (lowest_numbered q.1) h) refl

pub block_is : (x y : Block) → is_at (block_cmp x) y ≡ true → x ≡ y
block_is x y h = tells_apart exact_block x y h

-- ---- the pieces of one rectangle at a block

then_then : (a b c : Ordering) → ordering_then (ordering_then a b) c ≡ ordering_then a (ordering_then b c)
then_then Less b c = refl
then_then Equal b c = refl
then_then Greater b c = refl

-- what comes between places that begin with the same number begins with it
same_between : (a b : ℕ) (p o : Ordering) → is_le (ordering_then (nat_cmp a b) p) ≡ true → ordering_then (nat_cmp b a) o ≡ Less → b ≡ a
same_between a b p o h l = grind (arith, nat_tests)

after_same : (a : ℕ) (p : Ordering) → is_le (ordering_then (nat_cmp a a) p) ≡ true → is_le p ≡ true
after_same a p h = grind (arith, nat_tests)

before_same : (a : ℕ) (o : Ordering) → ordering_then (nat_cmp a a) o ≡ Less → o ≡ Less
before_same a o l = grind (arith, nat_tests)

-- the first two numbers of three
both_between : (a b c d : ℕ) (p o : Ordering) → is_le (ordering_then (nat_cmp a c) (ordering_then (nat_cmp b d) p)) ≡ true
    → ordering_then (nat_cmp c a) (ordering_then (nat_cmp d b) o) ≡ Less → (c ≡ a) × (d ≡ b)
both_between a b c d p o h l =
    let e = same_between a c _ _ h l in
    let h' = after_same a _ (subst (λ (x : ℕ). is_le (ordering_then (nat_cmp a x) (ordering_then (nat_cmp b d) p)) ≡ true) e h) in
    let l' = before_same a _ (subst (λ (x : ℕ). ordering_then (nat_cmp x a) (ordering_then (nat_cmp d b) o) ≡ Less) e l) in
    (e, same_between b d _ _ h' l')

area_between : (p k y : RangePair) (c o : Ordering) → y.first ≡ p.first → y.last ≡ p.last
    → is_le (ordering_then (ordering_then (nat_cmp p.first k.first) (ordering_then (nat_cmp p.last k.last) (nat_cmp 0 k.reader))) c) ≡ true
    → ordering_then (ordering_then (nat_cmp k.first y.first) (ordering_then (nat_cmp k.last y.last) (nat_cmp k.reader y.reader))) o ≡ Less
    → is_same_area k p ≡ true
area_between p k y c o e f h l =
    let h1 = ap is_le (sym (then_then (nat_cmp p.first k.first) (ordering_then (nat_cmp p.last k.last) (nat_cmp 0 k.reader)) c)) ∙ h in
    let h2 = ap (λ (z : Ordering). is_le (ordering_then (nat_cmp p.first k.first) z)) (sym (then_then (nat_cmp p.last k.last) (nat_cmp 0 k.reader) c)) ∙ h1 in
    let l1 = sym (then_then (nat_cmp k.first y.first) (ordering_then (nat_cmp k.last y.last) (nat_cmp k.reader y.reader)) o) ∙ l in
    let l2 = ap (λ (z : Ordering). ordering_then (nat_cmp k.first y.first) z) (sym (then_then (nat_cmp k.last y.last) (nat_cmp k.reader y.reader) o)) ∙ l1 in
    let l3 = subst (λ (z : ℕ). ordering_then (nat_cmp k.first z) (ordering_then (nat_cmp k.last y.last) (ordering_then (nat_cmp k.reader y.reader) o)) ≡ Less) e l2 in
    let l4 = subst (λ (z : ℕ). ordering_then (nat_cmp k.first p.first) (ordering_then (nat_cmp k.last z) (ordering_then (nat_cmp k.reader y.reader) o)) ≡ Less) f l3 in
    let s = both_between p.first p.last k.first k.last _ _ h2 l4 in
    and_from _ _ (eq-eqb k.first p.first s.0) (eq-eqb k.last p.last s.1)

after_equal : (a p : Ordering) → is_eq a ≡ true → is_le (ordering_then a p) ≡ true → is_le p ≡ true
after_equal Less p e h = absurd (true≢false (sym e))
after_equal Equal p e h = h
after_equal Greater p e h = absurd (true≢false (sym e))

before_equal : (a o : Ordering) → is_eq a ≡ true → ordering_then a o ≡ Less → o ≡ Less
before_equal Less o e l = absurd (true≢false (sym e))
before_equal Equal o e l = l
before_equal Greater o e l = absurd (true≢false (sym e))

pub area_run : (x : Block) (p : RangePair) → IsRun (x, first_for p) (stands_for x p)
area_run x p k y h n l = by (stands_for x p y) refl
  where
    at : (b : Bool) → is_at (block_cmp x) k.0 ≡ b → is_at (block_cmp x) y.0 ≡ true → b ≡ true
    at true e i = refl
    at false e i = sym (later x k.0 y.0 _ _ h e l) ∙ i

    stands : stands_for x p y ≡ true → stands_for x p k ≡ true
    stands t =
        let parts = and_parts (is_at (block_cmp x) y.0) (is_same_area y.1.pair p) t in
        let both = and_parts (y.1.pair.first == p.first) (y.1.pair.last == p.last) parts.1 in
        let here = at (is_at (block_cmp x) k.0) refl parts.0 in
        let to : is_at (block_cmp k.0) y.0 ≡ true = subst (λ (z : Block). is_at (block_cmp z) y.0 ≡ true) (block_is x k.0 here) parts.0 in
        let h' : is_le (numbered_cmp (first_for p) k.1) ≡ true = after_equal (block_cmp x k.0) _ here h in
        let l' : numbered_cmp k.1 y.1 ≡ Less = before_equal (block_cmp k.0 y.0) _ to l in
        and_from _ _ here
        (area_between p k.1.pair y.1.pair _ _ (eqb-true y.1.pair.first p.first both.0) (eqb-true y.1.pair.last p.last both.1) h' l')

    by : (b : Bool) → stands_for x p y ≡ b → b ≡ false
    by true e = sym (stands e) ∙ n
    by false e = refl

no_later_same : (a b : ℕ) → b ≡ a → (o : Ordering) → is_le o ≡ true → is_le (ordering_then (nat_cmp a b) o) ≡ true
no_later_same a b e o h = grind (arith, nat_tests)

pub from_area : (x : Block) (p : RangePair) (q : Piece) → stands_for x p q ≡ true → from_place (x, first_for p) q ≡ true
from_area x p q t =
    let parts = and_parts (is_at (block_cmp x) q.0) (is_same_area q.1.pair p) t in
    let both = and_parts (q.1.pair.first == p.first) (q.1.pair.last == p.last) parts.1 in
    let k = q.1.pair in
    let tail : is_le (ordering_then (nat_cmp p.last k.last) (nat_cmp 0 k.reader)) ≡ true = no_later_same p.last k.last (eqb-true k.last p.last both.1) _ (no_later k.reader) in
    let whole : is_le (ordering_then (nat_cmp p.first k.first) (ordering_then (nat_cmp p.last k.last) (nat_cmp 0 k.reader))) ≡ true =
    no_later_same p.first k.first (eqb-true k.first p.first both.0) _ tail in
    and_from _ true (at_or_after (block_cmp x q.0) _ (no_later_then _ _ whole (no_later q.1.number)) parts.0) refl

-- ---- one rectangle

abbrev area_with : ℕ → ℕ → Area
area_with a b = record { first = a; last = b }

area_by : (a b c d : ℕ) → a ≡ b → c ≡ d → area_with a c ≡ area_with b d
area_by a b c d e f = ap (λ (x : ℕ). area_with x c) e ∙ ap (λ (x : ℕ). area_with b x) f

pub same_area_is : (p q : RangePair) → is_same_area p q ≡ true → pair_area p ≡ pair_area q
same_area_is p q h =
    let both = and_parts (p.first == q.first) (p.last == q.last) h in
    area_by p.first q.first p.last q.last (eqb-true p.first q.first both.0) (eqb-true p.last q.last both.1)

pub same_area_turn : (p q : RangePair) → is_same_area p q ≡ is_same_area q p
same_area_turn p q = ap (λ (b : Bool). b && (p.last == q.last)) (turn_test p.first q.first) ∙ ap (λ (b : Bool). (q.first == p.first) && b) (turn_test p.last q.last)

pub same_area_both : (p q r : RangePair) → is_same_area p q ≡ true → is_same_area p r ≡ true → is_same_area q r ≡ true
same_area_both p q r h k =
    let e = same_area_is p q h in
    let f = same_area_is p r k in
    and_from _ _ (eq-eqb q.first r.first (ap (λ (a : Area). a.first) (sym e ∙ f))) (eq-eqb q.last r.last (ap (λ (a : Area). a.last) (sym e ∙ f)))

-- ---- what a loop over the pieces from a place on has found

pub found_by : (s : Piece) (f : Piece → Bool) (rest all ks : List Piece) (old new : Bool) → ((q : Piece) → f q ≡ true → from_place s q ≡ true)
    → all ≡ filter (from_place s) ks → list_any f rest ≡ false → (new || list_any f rest) ≡ (old || list_any f all) → new ≡ (old || list_any f ks)
found_by s f rest all ks old new from e none h =
    sym (or-false new) ∙ ap (λ b. new || b) (sym none) ∙ h ∙ ap (λ (us : List Piece). old || list_any f us) e
    ∙ ap (λ b. old || b) (any_of_filter (from_place s) f ks from)

reads_stands : (x : Block) (p : RangePair) (r : ℕ) (q : Piece) → reads_for x p r q ≡ true → stands_for x p q ≡ true
reads_stands x p r q h = (and_parts (stands_for x p q) (q.1.pair.reader == r) h).0

reads_from : (x : Block) (p : RangePair) (r : ℕ) (q : Piece) → reads_for x p r q ≡ true → from_place (x, first_for p) q ≡ true
reads_from x p r q h = from_area x p q (reads_stands x p r q h)

pub area_all : (x : Block) (p : RangePair) (r : ℕ) (rest all ks : List Piece) (old new : Bool) → all ≡ filter (from_place (x, first_for p)) ks → rest ≡ []
    → (new || list_any (reads_for x p r) rest) ≡ (old || list_any (reads_for x p r) all) → new ≡ (old || list_any (reads_for x p r) ks)
area_all x p r rest all ks old new e n h =
    found_by (x, first_for p) (reads_for x p r) rest all ks old new (reads_from x p r) e (ap (λ (us : List Piece). list_any (reads_for x p r) us) n) h

pub area_to_end : (x : Block) (p : RangePair) (r : ℕ) (q : Piece) (qs rest all ks : List Piece) (old new : Bool) → all ≡ filter (from_place (x, first_for p)) ks → rest ≡ q ∷ qs
    → false ≡ stands_for x p q → ComeFirst (stands_for x p) rest
    → (new || list_any (reads_for x p r) rest) ≡ (old || list_any (reads_for x p r) all) → new ≡ (old || list_any (reads_for x p r) ks)
area_to_end x p r q qs rest all ks old new e f n w h =
    found_by (x, first_for p) (reads_for x p r) rest all ks old new (reads_from x p r) e
    (ap (λ (us : List Piece). list_any (reads_for x p r) us) f
    ∙ or_from (reads_for x p r q) _ (ap (λ b. b && (q.1.pair.reader == r)) (sym n))
    (none_of_part (stands_for x p) (reads_for x p r) qs (reads_stands x p r) (none_behind_it (stands_for x p) q qs rest f (sym n) w)))
    h

pub area_one_more : (x : Block) (p : RangePair) (r : ℕ) (q : Piece) (qs rest : List Piece) (now new all : Bool) → rest ≡ q ∷ qs → true ≡ stands_for x p q
    → new ≡ (now || r == q.1.pair.reader) → (now || list_any (reads_for x p r) rest) ≡ all → (new || list_any (reads_for x p r) qs) ≡ all
area_one_more x p r q qs rest now new all e s n h =
    ap (λ b. b || list_any (reads_for x p r) qs) (n ∙ ap (λ b. now || b) (turn_test r q.1.pair.reader)) ∙ or_assoc now (q.1.pair.reader == r) _
    ∙ ap (λ b. now || ((b && (q.1.pair.reader == r)) || list_any (reads_for x p r) qs)) s
    ∙ ap (λ (us : List Piece). now || list_any (reads_for x p r) us) (sym e) ∙ h
