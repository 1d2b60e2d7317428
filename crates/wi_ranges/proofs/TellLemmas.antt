-- Steps of telling the readers of a cell.
use Rattle.wi_ranges.proofs.Words.{◌≡◌, ◌⊎◌, inl, inr, ℕ, ◌<◌, ◌+◌, ◌==◌, Bool, true, false, not, ◌&&◌, ◌||◌, cond, List, [], ◌∷◌, Option, Some, filter, take, length, get_or, refl, sym, ap, subst, ◌∙◌, nat_cmp, list_any, list_any_more, is_at, true≢false, and_parts, and_from, or_cases, or_from, or_left, or_right, eqb-true, eq-eqb, or-false, BTreeSet, contains, Vec, Block, RangePair, pair_area, block_cmp, lowest, is_within, is_one_of, Piece, piece_cmp, has_piece, is_among, piece_reads, reads_at, pair_reads, AreWhole, bag_of, with_pairs, IsAround, has_cell, Area, IsReader, row_of, rows, blocks_with, lookup, Contains, ◌↔◌}
use Rattle.std.proofs.lemmas.Map.Views.{any-filter_same}
use Rattle.std.specs.BTreeMap.{get}
use Rattle.std.specs.Prelude.{map}
use Rattle.wi_ranges.specs.Inner.Telling.{Left, is_same_area, has_area, is_gone, lacks, stands_for, reads_for, untold, was_told, readers_by, readers_told, Telling, telling, Tells, TellsReaders, Answers}
use Rattle.wi_ranges.proofs.ReaderLemmas.{any_of_filter}
use Rattle.wi_ranges.proofs.Exact.{same_piece, piece_self}
use Rattle.wi_values.proofs.Listed.{Contains-from_has, has-from_Contains}
use Rattle.wi_ranges.proofs.Found.{any_gives, any_from, reader_found, found_reader}
use Rattle.wi_ranges.proofs.Joined.{reader_by_cell, reader_in_bag, reader_in_either}
use Rattle.wi_ranges.proofs.AreaLemmas.{from_place, ComeFirst, at_block, from_block, block_is, same_area_is, same_area_both, none_behind_it}

pub clash : (b : Bool) {X : Type 0} → b ≡ true → b ≡ false → X
clash b h n = absurd (true≢false (sym h ∙ n))

is_not : (b : Bool) → not b ≡ true → b ≡ false
is_not true h = absurd (true≢false (sym h))
is_not false h = refl

-- ---- what is left at a block

pub gone_parts : (x : Block) (left : List RangePair) (q : Piece) → is_gone x left q ≡ true → (at_block x q ≡ true) × (has_area left q.1.pair ≡ false)
gone_parts x left q h =
    let parts = and_parts (at_block x q) (not (has_area left q.1.pair)) h in
    (parts.0, is_not (has_area left q.1.pair) parts.1)

pub gone_from : (x : Block) (left : List RangePair) (q : Piece) → at_block x q ≡ true → has_area left q.1.pair ≡ false → is_gone x left q ≡ true
gone_from x left q h n = and_from _ _ h (ap not n)

-- a rectangle is left, or gone
left_or_gone : (x : Block) (left : List RangePair) (q : Piece) → at_block x q ≡ true → (has_area left q.1.pair ≡ true) ⊎ (is_gone x left q ≡ true)
left_or_gone x left q h = by (has_area left q.1.pair) refl
  where
    by : (b : Bool) → has_area left q.1.pair ≡ b → (has_area left q.1.pair ≡ true) ⊎ (is_gone x left q ≡ true)
    by true e = inl e
    by false e = inr (gone_from x left q h e)

-- ---- the rectangles at a block are listed

-- what isn't listed yet is still to come
abbrev pub MissesNone : Block → List Piece → List RangePair → List Piece → Type 0
MissesNone x ks areas rest = (q : Piece) → has_piece ks q ≡ true → is_gone x areas q ≡ true → has_piece rest q ≡ true

pub misses_start : (x : Block) (ks all : List Piece) (areas : List RangePair) → all ≡ filter (from_place (x, lowest)) ks → MissesNone x ks areas all
misses_start x ks all areas e q h g =
    let there = (gone_parts x areas q g).0 in
    ap (λ (us : List Piece). has_piece us q) e
    ∙ any_of_filter (from_place (x, lowest)) (is_at (piece_cmp q)) ks (λ y s. subst (λ (z : Piece). from_place (x, lowest) z ≡ true) (same_piece q y s) (from_block x q there)) ∙ h

not_gone : (x : Block) (ks : List Piece) (areas : List RangePair) (rest : List Piece) → MissesNone x ks areas rest → (q : Piece) → has_piece ks q ≡ true → (is_gone x areas q ≡ true → has_piece rest q ≡ false) → is_gone x areas q ≡ false
not_gone x ks areas rest m q h n = by (is_gone x areas q) refl
  where
    by : (b : Bool) → is_gone x areas q ≡ b → b ≡ false
    by true g = clash (has_piece rest q) (m q h g) (n g)
    by false g = refl

pub misses_none : (x : Block) (ks : List Piece) (areas : List RangePair) (rest : List Piece) → rest ≡ [] → MissesNone x ks areas rest → (q : Piece) → has_piece ks q ≡ true → is_gone x areas q ≡ false
misses_none x ks areas rest e m q h = not_gone x ks areas rest m q h (λ g. ap (λ (us : List Piece). has_piece us q) e)

pub misses_none_behind : (x : Block) (ks : List Piece) (areas : List RangePair) (k : Piece) (qs rest : List Piece) → rest ≡ k ∷ qs → at_block x k ≡ false → ComeFirst (at_block x) rest → MissesNone x ks areas rest
    → (q : Piece) → has_piece ks q ≡ true → is_gone x areas q ≡ false
misses_none_behind x ks areas k qs rest e n w m q h = not_gone x ks areas rest m q h none
  where
    none : is_gone x areas q ≡ true → has_piece rest q ≡ false
    none g =
        let there = (gone_parts x areas q g).0 in
        ap (λ (us : List Piece). has_piece us q) e ∙ or_from (is_at (piece_cmp q) k) (has_piece qs q) (first (is_at (piece_cmp q) k) refl there) (others (has_piece qs q) refl there)
      where
        first : (b : Bool) → is_at (piece_cmp q) k ≡ b → at_block x q ≡ true → b ≡ false
        first true s i = clash (at_block x k) (subst (λ (z : Piece). at_block x z ≡ true) (same_piece q k s) i) n
        first false s i = refl

        others : (b : Bool) → has_piece qs q ≡ b → at_block x q ≡ true → b ≡ false
        others true s i = clash (list_any (at_block x) qs) (any_from (at_block x) qs q s i) (none_behind_it (at_block x) k qs rest e n w)
        others false s i = refl

pub misses_less : (x : Block) (ks : List Piece) (old new : List RangePair) (k : Piece) (qs rest : List Piece) → rest ≡ k ∷ qs
    → ((p : RangePair) → has_area old p ≡ true → has_area new p ≡ true) → ((p : RangePair) → is_same_area k.1.pair p ≡ true → has_area new p ≡ true)
    → MissesNone x ks old rest → MissesNone x ks new qs
misses_less x ks old new k qs rest e stays there m q h g =
    let parts = gone_parts x new q g in
    by parts.1 (or_cases (is_at (piece_cmp q) k) (has_piece qs q) (ap (λ (us : List Piece). has_piece us q) (sym e) ∙ m q h (gone_from x old q parts.0 (before (has_area old q.1.pair) refl parts.1))))
  where
    before : (b : Bool) → has_area old q.1.pair ≡ b → has_area new q.1.pair ≡ false → b ≡ false
    before true s n = clash (has_area new q.1.pair) (stays q.1.pair s) n
    before false s n = refl

    by : has_area new q.1.pair ≡ false → (is_at (piece_cmp q) k ≡ true) ⊎ (has_piece qs q ≡ true) → has_piece qs q ≡ true
    by n (inl s) = clash (has_area new q.1.pair) (there q.1.pair (subst (λ (z : Piece). is_same_area z.1.pair q.1.pair ≡ true) (same_piece q k s) (itself q.1.pair))) n
      where
        itself : (p : RangePair) → is_same_area p p ≡ true
        itself p = and_from _ _ (eq-eqb p.first p.first refl) (eq-eqb p.last p.last refl)
    by n (inr s) = s

-- ---- the readers of some rectangles

here_is : (x : Block) (q : Piece) → is_among q.0 (x ∷ []) ≡ at_block x q
here_is x q = or-false (is_at (block_cmp x) q.0)

-- none yet
pub tells_start : (ks : List Piece) (x : Block) (a : ℕ) (set : BTreeSet ℕ) → Tells ks (x ∷ []) a (is_gone x []) (is_gone x []) set set
tells_start ks x a set = record {
  stays = λ r h. h;
  only = λ r h. inl h;
  all = λ q h i w. inr (gone_from x [] q (sym (here_is x q) ∙ i) refl);
  told = λ q h g. inl g;
}

more_areas : (areas : List RangePair) (i : ℕ) (p q : RangePair) → i < length areas → p ≡ get_or areas i p → has_area (take (i + 1) areas) q ≡ (has_area (take i areas) q || is_same_area p q)
more_areas areas i p q l e = list_any_more (λ x. is_same_area x q) areas i p l ∙ ap (λ (x : RangePair). has_area (take i areas) q || is_same_area x q) (sym e)

-- gone of one more, or it is that
gone_more : (x : Block) (areas : List RangePair) (i : ℕ) (p : RangePair) (q : Piece) → i < length areas → p ≡ get_or areas i p → is_gone x (take i areas) q ≡ true → (is_gone x (take (i + 1) areas) q ≡ true) ⊎ (stands_for x p q ≡ true)
gone_more x areas i p q l e g = by (is_same_area p q.1.pair) refl
  where
    by : (b : Bool) → is_same_area p q.1.pair ≡ b → (is_gone x (take (i + 1) areas) q ≡ true) ⊎ (stands_for x p q ≡ true)
    by true s = inr (and_from _ _ (gone_parts x (take i areas) q g).0 (same_area_both p q.1.pair p s (and_from _ _ (eq-eqb p.first p.first refl) (eq-eqb p.last p.last refl))))
    by false s = inl (gone_from x (take (i + 1) areas) q (gone_parts x (take i areas) q g).0 (more_areas areas i p q.1.pair l e ∙ or_from _ _ (gone_parts x (take i areas) q g).1 s))

stands_area : (x : Block) (p : RangePair) (q : Piece) (a : ℕ) → stands_for x p q ≡ true → is_within (pair_area q.1.pair) a ≡ is_within (pair_area p) a
stands_area x p q a s = ap (λ r. is_within r a) (same_area_is q.1.pair p (and_parts (at_block x q) (is_same_area q.1.pair p) s).1)

-- one more, which has the cell
tells_more : (ks : List Piece) (x : Block) (a : ℕ) (areas : List RangePair) (i : ℕ) (p : RangePair) (old mid new : BTreeSet ℕ) → i < length areas → p ≡ get_or areas i p → is_within (pair_area p) a ≡ true
    → ((r : ℕ) → contains nat_cmp new r ≡ (contains nat_cmp mid r || list_any (reads_for x p r) ks))
    → Tells ks (x ∷ []) a (is_gone x (take i areas)) (is_gone x (take i areas)) old mid → Tells ks (x ∷ []) a (is_gone x (take (i + 1) areas)) (is_gone x (take (i + 1) areas)) old new
tells_more ks x a areas i p old mid new l e w f m = record {
  stays = λ r h. still r (m.stays r h);
  only = λ r h. only r (or_cases (contains nat_cmp mid r) _ (sym (f r) ∙ h));
  all = λ q h j v. all q h (m.all q h j v);
  told = λ q h g. inl g;
}
  where
    still : (r : ℕ) → contains nat_cmp mid r ≡ true → contains nat_cmp new r ≡ true
    still r h = f r ∙ or_left (contains nat_cmp mid r) _ h

    read : (r : ℕ) → list_any (reads_for x p r) ks ≡ true → list_any (reads_at (x ∷ []) a r) ks ≡ true
    read r h =
        let s = any_gives (reads_for x p r) ks h in
        let parts = and_parts (stands_for x p s.0) (s.0.1.pair.reader == r) s.1 in
        let here = (and_parts (at_block x s.0) (is_same_area s.0.1.pair p) parts.0).0 in
        any_from (reads_at (x ∷ []) a r) ks s.0 s.2 (and_from _ _ (here_is x s.0 ∙ here) (and_from _ _ (stands_area x p s.0 a parts.0 ∙ w) parts.1))

    only : (r : ℕ) → (contains nat_cmp mid r ≡ true) ⊎ (list_any (reads_for x p r) ks ≡ true) → (contains nat_cmp old r ≡ true) ⊎ (list_any (reads_at (x ∷ []) a r) ks ≡ true)
    only r (inl h) = m.only r h
    only r (inr h) = inr (read r h)

    one : (q : Piece) → has_piece ks q ≡ true → (is_gone x (take (i + 1) areas) q ≡ true) ⊎ (stands_for x p q ≡ true) → (contains nat_cmp new q.1.pair.reader ≡ true) ⊎ (is_gone x (take (i + 1) areas) q ≡ true)
    one q h (inl g) = inr g
    one q h (inr s) = inl (f q.1.pair.reader ∙ or_right (contains nat_cmp mid q.1.pair.reader) _ (any_from (reads_for x p q.1.pair.reader) ks q h (and_from _ _ s (eq-eqb q.1.pair.reader q.1.pair.reader refl))))

    all : (q : Piece) → has_piece ks q ≡ true → (contains nat_cmp mid q.1.pair.reader ≡ true) ⊎ (is_gone x (take i areas) q ≡ true) → (contains nat_cmp new q.1.pair.reader ≡ true) ⊎ (is_gone x (take (i + 1) areas) q ≡ true)
    all q h (inl j) = inl (still q.1.pair.reader j)
    all q h (inr g) = one q h (gone_more x areas i p q l e g)

-- one more, which doesn't
tells_not : (ks : List Piece) (x : Block) (a : ℕ) (areas : List RangePair) (i : ℕ) (p : RangePair) (old mid new : BTreeSet ℕ) → i < length areas → p ≡ get_or areas i p → is_within (pair_area p) a ≡ false
    → ((r : ℕ) → contains nat_cmp new r ≡ contains nat_cmp mid r)
    → Tells ks (x ∷ []) a (is_gone x (take i areas)) (is_gone x (take i areas)) old mid → Tells ks (x ∷ []) a (is_gone x (take (i + 1) areas)) (is_gone x (take (i + 1) areas)) old new
tells_not ks x a areas i p old mid new l e w f m = record {
  stays = λ r h. f r ∙ m.stays r h;
  only = λ r h. m.only r (sym (f r) ∙ h);
  all = λ q h j v. all q v (m.all q h j v);
  told = λ q h g. inl g;
}
  where
    one : (q : Piece) → is_within (pair_area q.1.pair) a ≡ true → (is_gone x (take (i + 1) areas) q ≡ true) ⊎ (stands_for x p q ≡ true) → is_gone x (take (i + 1) areas) q ≡ true
    one q v (inl g) = g
    one q v (inr s) = clash (is_within (pair_area p) a) (sym (stands_area x p q a s) ∙ v) w

    all : (q : Piece) → is_within (pair_area q.1.pair) a ≡ true → (contains nat_cmp mid q.1.pair.reader ≡ true) ⊎ (is_gone x (take i areas) q ≡ true) → (contains nat_cmp new q.1.pair.reader ≡ true) ⊎ (is_gone x (take (i + 1) areas) q ≡ true)
    all q v (inl j) = inl (f q.1.pair.reader ∙ j)
    all q v (inr g) = inr (one q v (gone_more x areas i p q l e g))

pub tells_one : (ks : List Piece) (x : Block) (a : ℕ) (areas : List RangePair) (i : ℕ) (p : RangePair) (old mid new : BTreeSet ℕ) → i < length areas → p ≡ get_or areas i p
    → ((r : ℕ) → contains nat_cmp new r ≡ (contains nat_cmp mid r || (is_within (pair_area p) a && list_any (reads_for x p r) ks)))
    → Tells ks (x ∷ []) a (is_gone x (take i areas)) (is_gone x (take i areas)) old mid → Tells ks (x ∷ []) a (is_gone x (take (i + 1) areas)) (is_gone x (take (i + 1) areas)) old new
tells_one ks x a areas i p old mid new l e f m = by (is_within (pair_area p) a) refl
  where
    by : (b : Bool) → is_within (pair_area p) a ≡ b → Tells ks (x ∷ []) a (is_gone x (take (i + 1) areas)) (is_gone x (take (i + 1) areas)) old new
    by true w = tells_more ks x a areas i p old mid new l e w (λ r. f r ∙ ap (λ b. contains nat_cmp mid r || (b && list_any (reads_for x p r) ks)) w) m
    by false w = tells_not ks x a areas i p old mid new l e w (λ r. f r ∙ ap (λ b. contains nat_cmp mid r || (b && list_any (reads_for x p r) ks)) w ∙ or-false (contains nat_cmp mid r)) m

-- ---- the rectangles that have the cell are left no longer

abbrev met : ℕ → RangePair → Bool
met a p = is_within (pair_area p) a

area_within : (a : ℕ) (ps : List RangePair) (p : RangePair) → has_area ps p ≡ true → met a p ≡ true → list_any (met a) ps ≡ true
area_within a [] p h w = clash false h refl
area_within a (x ∷ xs) p h w = by (λ s. area_within a xs p s w) (or_cases (is_same_area x p) (has_area xs p) h)
  where
    by : (has_area xs p ≡ true → list_any (met a) xs ≡ true) → (is_same_area x p ≡ true) ⊎ (has_area xs p ≡ true) → (met a x || list_any (met a) xs) ≡ true
    by g (inl s) = or_left (met a x) _ (ap (λ r. is_within r a) (same_area_is x p s) ∙ w)
    by g (inr s) = or_right (met a x) _ (g s)

-- none of them has it
pub tells_none : (ks : List Piece) (x : Block) (a : ℕ) (left : List RangePair) (set : BTreeSet ℕ) → list_any (met a) left ≡ false → Tells ks (x ∷ []) a (is_gone x left) (is_gone x left) set set
tells_none ks x a left set n = record {
  stays = λ r h. h;
  only = λ r h. inl h;
  all = λ q h i w. inr (all q w (left_or_gone x left q (sym (here_is x q) ∙ i)));
  told = λ q h g. inl g;
}
  where
    all : (q : Piece) → is_within (pair_area q.1.pair) a ≡ true → (has_area left q.1.pair ≡ true) ⊎ (is_gone x left q ≡ true) → is_gone x left q ≡ true
    all q w (inl h) = clash (list_any (met a) left) (area_within a left q.1.pair h w) n
    all q w (inr g) = g

-- those that have it were told
pub tells_apart_left : (ks : List Piece) (x : Block) (a : ℕ) (left rest : List RangePair) (old new : BTreeSet ℕ) → rest ≡ filter (λ p. not (met a p)) left
    → Tells ks (x ∷ []) a (is_gone x left) (is_gone x left) old new → Tells ks (x ∷ []) a (is_gone x left) (is_gone x rest) old new
tells_apart_left ks x a left rest old new e m = record {
  stays = m.stays;
  only = m.only;
  all = m.all;
  told = λ q h g. told q h (gone_parts x rest q g).0 (gone_parts x rest q g).1 (left_or_gone x left q (gone_parts x rest q g).0);
}
  where
    still : (p : RangePair) → has_area rest p ≡ (not (met a p) && has_area left p)
    still p = ap (λ (us : List RangePair). has_area us p) e ∙ any-filter_same (λ y. is_same_area y p) (λ y. not (met a y)) (not (met a p)) (λ y s. ap (λ r. not (is_within r a)) (same_area_is y p s)) left

    within : (p : RangePair) (b : Bool) → met a p ≡ b → has_area rest p ≡ false → has_area left p ≡ true → b ≡ true
    within p true w n h = refl
    within p false w n h = clash (has_area rest p) (still p ∙ and_from _ _ (ap not w) h) n

    turn : (q : Piece) → (contains nat_cmp new q.1.pair.reader ≡ true) ⊎ (is_gone x left q ≡ true) → (is_gone x left q ≡ true) ⊎ (contains nat_cmp new q.1.pair.reader ≡ true)
    turn q (inl h) = inr h
    turn q (inr h) = inl h

    told : (q : Piece) → has_piece ks q ≡ true → at_block x q ≡ true → has_area rest q.1.pair ≡ false → (has_area left q.1.pair ≡ true) ⊎ (is_gone x left q ≡ true) → (is_gone x left q ≡ true) ⊎ (contains nat_cmp new q.1.pair.reader ≡ true)
    told q h i n (inl k) = turn q (m.all q h (here_is x q ∙ i) (within q.1.pair (met a q.1.pair) refl n k))
    told q h i n (inr g) = inl g

-- a block that wasn't looked at before
pub tells_first : (ks : List Piece) (x : Block) (xs : List Block) (a : ℕ) (areas : List RangePair) (t : Piece → Bool) (old new : BTreeSet ℕ) → ((q : Piece) → has_piece ks q ≡ true → is_gone x areas q ≡ false)
    → Tells ks xs a (is_gone x areas) t old new → Tells ks xs a untold t old new
tells_first ks x xs a areas t old new n m = record {
  stays = m.stays;
  only = m.only;
  all = λ q h i w. all q h (m.all q h i w);
  told = λ q h g. told q h (m.told q h g);
}
  where
    all : (q : Piece) → has_piece ks q ≡ true → (contains nat_cmp new q.1.pair.reader ≡ true) ⊎ (is_gone x areas q ≡ true) → (contains nat_cmp new q.1.pair.reader ≡ true) ⊎ (untold q ≡ true)
    all q h (inl i) = inl i
    all q h (inr i) = clash (is_gone x areas q) i (n q h)

    told : (q : Piece) → has_piece ks q ≡ true → (is_gone x areas q ≡ true) ⊎ (contains nat_cmp new q.1.pair.reader ≡ true) → (untold q ≡ true) ⊎ (contains nat_cmp new q.1.pair.reader ≡ true)
    told q h (inl i) = clash (is_gone x areas q) i (n q h)
    told q h (inr i) = inr i

-- ---- by blocks

told_here : (left : Left) (x : Block) (q : Piece) (ps : Vec RangePair) → at_block x q ≡ true → get block_cmp left x ≡ Some ps → was_told left q ≡ not (has_area ps.items q.1.pair)
told_here left x q ps h e = ap (λ o. lacks o q.1.pair) (ap (λ (y : Block). get block_cmp left y) (sym (block_is x q.0 h)) ∙ e)

pub tells_by_block : (ks : List Piece) (x : Block) (a : ℕ) (old new : Left) (s : Piece → Bool) (rest : Vec RangePair) (before after : BTreeSet ℕ)
    → ((q : Piece) → has_piece ks q ≡ true → s q ≡ true → was_told old q ≡ true)
    → ((y : Block) → get block_cmp new y ≡ cond (is_at (block_cmp x) y) (Some rest) (get block_cmp old y))
    → Tells ks (x ∷ []) a s (is_gone x rest.items) before after → Tells ks (x ∷ []) a (was_told old) (was_told new) before after
tells_by_block ks x a old new s rest before after f g m = record {
  stays = m.stays;
  only = m.only;
  all = λ q h i w. all q h (m.all q h i w);
  told = λ q h t. told q h t (at_block x q) refl;
}
  where
    all : (q : Piece) → has_piece ks q ≡ true → (contains nat_cmp after q.1.pair.reader ≡ true) ⊎ (s q ≡ true) → (contains nat_cmp after q.1.pair.reader ≡ true) ⊎ (was_told old q ≡ true)
    all q h (inl j) = inl j
    all q h (inr j) = inr (f q h j)

    back : (q : Piece) → has_piece ks q ≡ true → (s q ≡ true) ⊎ (contains nat_cmp after q.1.pair.reader ≡ true) → (was_told old q ≡ true) ⊎ (contains nat_cmp after q.1.pair.reader ≡ true)
    back q h (inl j) = inl (f q h j)
    back q h (inr j) = inr j

    told : (q : Piece) → has_piece ks q ≡ true → was_told new q ≡ true → (b : Bool) → at_block x q ≡ b → (was_told old q ≡ true) ⊎ (contains nat_cmp after q.1.pair.reader ≡ true)
    told q h t true e = back q h (m.told q h (and_from _ _ e (sym (ap (λ o. lacks o q.1.pair) (g q.0 ∙ ap (λ (b : Bool). cond b (Some rest) (get block_cmp old q.0)) e)) ∙ t)))
    told q h t false e = inl (sym (ap (λ o. lacks o q.1.pair) (g q.0 ∙ ap (λ (b : Bool). cond b (Some rest) (get block_cmp old q.0)) e)) ∙ t)

-- a block that was looked at before
pub gone_was_told : (old : Left) (x : Block) (ps : Vec RangePair) → get block_cmp old x ≡ Some ps → (q : Piece) → is_gone x ps.items q ≡ true → was_told old q ≡ true
gone_was_told old x ps e q g =
    let parts = and_parts (at_block x q) (not (has_area ps.items q.1.pair)) g in
    told_here old x q ps parts.0 e ∙ parts.1

-- ---- one block after another

pub tells_both : (ks : List Piece) (x : Block) (xs zs : List Block) (a : ℕ) (s t u : Piece → Bool) (old mid new : BTreeSet ℕ) → zs ≡ x ∷ xs
    → Tells ks (x ∷ []) a s t old mid → Tells ks xs a t u mid new → Tells ks zs a s u old new
tells_both ks x xs zs a s t u old mid new e m n = subst (λ (us : List Block). Tells ks us a s u old new) (sym e) (record {
  stays = λ r h. n.stays r (m.stays r h);
  only = λ r h. last r (n.only r h);
  all = λ q h i w. all q h w (or_cases (at_block x q) (is_among q.0 xs) i);
  told = λ q h i. back q h (n.told q h i);
})
  where
    into : (ys : List Block) (r : ℕ) → ((q : Piece) → is_among q.0 ys ≡ true → is_among q.0 (x ∷ xs) ≡ true) → list_any (reads_at ys a r) ks ≡ true → list_any (reads_at (x ∷ xs) a r) ks ≡ true
    into ys r g h =
        let z = any_gives (reads_at ys a r) ks h in
        let parts = and_parts (is_among z.0.0 ys) (piece_reads a r z.0) z.1 in
        any_from (reads_at (x ∷ xs) a r) ks z.0 z.2 (and_from _ _ (g z.0 parts.0) parts.1)

    first : (r : ℕ) → (contains nat_cmp old r ≡ true) ⊎ (list_any (reads_at (x ∷ []) a r) ks ≡ true) → (contains nat_cmp old r ≡ true) ⊎ (list_any (reads_at (x ∷ xs) a r) ks ≡ true)
    first r (inl h) = inl h
    first r (inr h) = inr (into (x ∷ []) r (λ q i. or_left (at_block x q) _ (sym (here_is x q) ∙ i)) h)

    last : (r : ℕ) → (contains nat_cmp mid r ≡ true) ⊎ (list_any (reads_at xs a r) ks ≡ true) → (contains nat_cmp old r ≡ true) ⊎ (list_any (reads_at (x ∷ xs) a r) ks ≡ true)
    last r (inl h) = first r (m.only r h)
    last r (inr h) = inr (into xs r (λ q i. or_right (at_block x q) _ i) h)

    back : (q : Piece) → has_piece ks q ≡ true → (t q ≡ true) ⊎ (contains nat_cmp new q.1.pair.reader ≡ true) → (s q ≡ true) ⊎ (contains nat_cmp new q.1.pair.reader ≡ true)
    back q h (inl i) = forth q (m.told q h i)
      where
        forth : (p : Piece) → (s p ≡ true) ⊎ (contains nat_cmp mid p.1.pair.reader ≡ true) → (s p ≡ true) ⊎ (contains nat_cmp new p.1.pair.reader ≡ true)
        forth p (inl k) = inl k
        forth p (inr k) = inr (n.stays p.1.pair.reader k)
    back q h (inr i) = inr i

    turn : (q : Piece) → (s q ≡ true) ⊎ (contains nat_cmp new q.1.pair.reader ≡ true) → (contains nat_cmp new q.1.pair.reader ≡ true) ⊎ (s q ≡ true)
    turn q (inl i) = inr i
    turn q (inr i) = inl i

    here : (q : Piece) → (contains nat_cmp mid q.1.pair.reader ≡ true) ⊎ (s q ≡ true) → (contains nat_cmp new q.1.pair.reader ≡ true) ⊎ (s q ≡ true)
    here q (inl i) = inl (n.stays q.1.pair.reader i)
    here q (inr i) = inr i

    there : (q : Piece) → has_piece ks q ≡ true → (contains nat_cmp new q.1.pair.reader ≡ true) ⊎ (t q ≡ true) → (contains nat_cmp new q.1.pair.reader ≡ true) ⊎ (s q ≡ true)
    there q h (inl i) = inl i
    there q h (inr i) = turn q (back q h (inl i))

    all : (q : Piece) → has_piece ks q ≡ true → is_within (pair_area q.1.pair) a ≡ true → (at_block x q ≡ true) ⊎ (is_among q.0 xs ≡ true) → (contains nat_cmp new q.1.pair.reader ≡ true) ⊎ (s q ≡ true)
    all q h w (inl i) = here q (m.all q h (here_is x q ∙ i) w)
    all q h w (inr i) = there q h (n.all q h i w)

-- ---- by readers

reader_by : (t : Piece → Bool) (ks : List Piece) (q : Piece) → has_piece ks q ≡ true → t q ≡ true → is_one_of (readers_by t ks) q.1.pair.reader ≡ true
reader_by t [] q h i = clash false h refl
reader_by t (k ∷ ks) q h i = by (λ s. reader_by t ks q s i) (t k) refl (or_cases (is_at (piece_cmp q) k) (has_piece ks q) h)
  where
    by : (has_piece ks q ≡ true → is_one_of (readers_by t ks) q.1.pair.reader ≡ true) → (b : Bool) → t k ≡ b → (is_at (piece_cmp q) k ≡ true) ⊎ (has_piece ks q ≡ true)
        → is_one_of (map (λ (z : Piece). z.1.pair.reader) (cond b (k ∷ filter t ks) (filter t ks))) q.1.pair.reader ≡ true
    by g true e (inl s) = or_left (k.1.pair.reader == q.1.pair.reader) _ (eq-eqb k.1.pair.reader q.1.pair.reader (ap (λ (z : Piece). z.1.pair.reader) (sym (same_piece q k s))))
    by g true e (inr s) = or_right (k.1.pair.reader == q.1.pair.reader) _ (g s)
    by g false e (inl s) = clash (t k) (subst (λ (z : Piece). t z ≡ true) (same_piece q k s) i) e
    by g false e (inr s) = g s

-- a piece that passes, with this reader
abbrev Passes : (Piece → Bool) → List Piece → ℕ → Type 0
Passes t ks r = (q : Piece) × (has_piece ks q ≡ true) × (t q ≡ true) × (q.1.pair.reader ≡ r)

by_reader : (t : Piece → Bool) (ks : List Piece) (r : ℕ) → is_one_of (readers_by t ks) r ≡ true → Passes t ks r
by_reader t [] r h = clash false h refl
by_reader t (k ∷ ks) r h = by (λ i. by_reader t ks r i) (t k) refl h
  where
    later : Passes t ks r → Passes t (k ∷ ks) r
    later z = (z.0, or_right (is_at (piece_cmp z.0) k) _ z.1, z.2, z.3)

    first : (is_one_of (readers_by t ks) r ≡ true → Passes t ks r) → t k ≡ true → ((k.1.pair.reader == r) ≡ true) ⊎ (is_one_of (readers_by t ks) r ≡ true) → Passes t (k ∷ ks) r
    first g e (inl s) = (k, or_left (is_at (piece_cmp k) k) _ (piece_self k), e, eqb-true k.1.pair.reader r s)
    first g e (inr s) = later (g s)

    by : (is_one_of (readers_by t ks) r ≡ true → Passes t ks r) → (b : Bool) → t k ≡ b → is_one_of (map (λ (z : Piece). z.1.pair.reader) (cond b (k ∷ filter t ks) (filter t ks))) r ≡ true → Passes t (k ∷ ks) r
    by g true e i = first g e (or_cases (k.1.pair.reader == r) _ i)
    by g false e i = later (g i)

-- from the blocks that hold a row, or from those of them at which something stands
pub tells_readers : (ks : List Piece) (xs zs : List Block) (a : ℕ) (s t : Piece → Bool) (old new : BTreeSet ℕ) → ((r : ℕ) → list_any (reads_at xs a r) ks ≡ list_any (reads_at zs a r) ks)
    → Tells ks xs a s t old new → TellsReaders ks zs a s t old new
tells_readers ks xs zs a s t old new e m = record {
  stays = m.stays;
  only = λ r h. only r (m.only r h);
  all = λ r h. all r (any_gives (reads_at xs a r) ks (e r ∙ h));
  told = λ r h. told r (by_reader t ks r h);
}
  where
    only : (r : ℕ) → (contains nat_cmp old r ≡ true) ⊎ (list_any (reads_at xs a r) ks ≡ true) → (contains nat_cmp old r ≡ true) ⊎ (list_any (reads_at zs a r) ks ≡ true)
    only r (inl h) = inl h
    only r (inr h) = inr (sym (e r) ∙ h)

    same : (q : Piece) (r : ℕ) → has_piece ks q ≡ true → q.1.pair.reader ≡ r → (contains nat_cmp new q.1.pair.reader ≡ true) ⊎ (s q ≡ true) → (contains nat_cmp new r ≡ true) ⊎ (is_one_of (readers_by s ks) r ≡ true)
    same q r h k (inl i) = inl (subst (λ (z : ℕ). contains nat_cmp new z ≡ true) k i)
    same q r h k (inr i) = inr (subst (λ (z : ℕ). is_one_of (readers_by s ks) z ≡ true) k (reader_by s ks q h i))

    all : (r : ℕ) → (q : Piece) × (reads_at xs a r q ≡ true) × (has_piece ks q ≡ true) → (contains nat_cmp new r ≡ true) ⊎ (is_one_of (readers_by s ks) r ≡ true)
    all r z =
        let parts = and_parts (is_among z.0.0 xs) (piece_reads a r z.0) z.1 in
        let reads = and_parts (is_within (pair_area z.0.1.pair) a) (z.0.1.pair.reader == r) parts.1 in
        same z.0 r z.2 (eqb-true z.0.1.pair.reader r reads.1) (m.all z.0 z.2 parts.0 reads.0)

    back : (q : Piece) (r : ℕ) → has_piece ks q ≡ true → q.1.pair.reader ≡ r → (s q ≡ true) ⊎ (contains nat_cmp new q.1.pair.reader ≡ true) → (is_one_of (readers_by s ks) r ≡ true) ⊎ (contains nat_cmp new r ≡ true)
    back q r h k (inl i) = inl (subst (λ (z : ℕ). is_one_of (readers_by s ks) z ≡ true) k (reader_by s ks q h i))
    back q r h k (inr i) = inr (subst (λ (z : ℕ). contains nat_cmp new z ≡ true) k i)

    told : (r : ℕ) → (q : Piece) × (has_piece ks q ≡ true) × (t q ≡ true) × (q.1.pair.reader ≡ r) → (is_one_of (readers_by s ks) r ≡ true) ⊎ (contains nat_cmp new r ≡ true)
    told r z = back z.0 r z.1 z.3 (m.told z.0 z.1 z.2)

-- where there are no pieces
pub tells_nothing : (ks : List Piece) (xs : List Block) (a : ℕ) (s : Piece → Bool) (set : BTreeSet ℕ) → ks ≡ [] → TellsReaders ks xs a s s set set
tells_nothing ks xs a s set e = record {
  stays = λ r h. h;
  only = λ r h. inl h;
  all = λ r h. clash (list_any (reads_at xs a r) ks) h (ap (λ (us : List Piece). list_any (reads_at xs a r) us) e);
  told = λ r h. inl h;
}

-- ---- a search

-- where no block was looked at, nothing was told
pub told_nothing : (left : Left) (ks : List Piece) → left.entries ≡ [] → readers_told left ks ≡ []
told_nothing left [] e = refl
told_nothing left (k ∷ ks) e = by (was_told left k) (ap (λ (es : List (Block × Vec RangePair)). lacks (lookup (is_at (block_cmp k.0)) es) k.1.pair) e) (told_nothing left ks e)
  where
    by : (b : Bool) → b ≡ false → readers_told left ks ≡ [] → map (λ (z : Piece). z.1.pair.reader) (cond b (k ∷ filter (was_told left) ks) (filter (was_told left) ks)) ≡ []
    by true n h = clash true refl n
    by false n h = h

in_list : (list : List ℕ) (set : BTreeSet ℕ) → ((r : ℕ) → Contains list r ↔ (contains nat_cmp set r ≡ true)) → (r : ℕ) → contains nat_cmp set r ≡ true → is_one_of list r ≡ true
in_list list set f r h = has-from_Contains list r ((f r).1 h)

in_set : (list : List ℕ) (set : BTreeSet ℕ) → ((r : ℕ) → Contains list r ↔ (contains nat_cmp set r ≡ true)) → (r : ℕ) → is_one_of list r ≡ true → contains nat_cmp set r ≡ true
in_set list set f r h = (f r).0 (Contains-from_has list r h)

-- all readers are an answer
pub answers_all : (s : Telling) (a : ℕ) (list : List ℕ) → ((r : ℕ) → Contains list r ↔ IsReader s.bag a r) → Answers s s a list
answers_all s a list f = record {
  bag = refl;
  only = λ r h. (f r).0 (Contains-from_has list r h);
  all = λ r h. inl (has-from_Contains list r ((f r).1 h));
  told = λ r h. inl h;
}

-- so are those by cell, and those that were told
pub answers_told : (singles : List RangePair) (ks : List Piece) (a : ℕ) (old new : Left) (none mid set : BTreeSet ℕ) (list : List ℕ) → none.keys ≡ []
    → ((r : ℕ) → contains nat_cmp mid r ≡ (contains nat_cmp none r || list_any (pair_reads a r) singles)) → AreWhole ks → row_of a < rows
    → TellsReaders ks (blocks_with (row_of a) 20 0) a (was_told old) (was_told new) mid set → ((r : ℕ) → Contains list r ↔ (contains nat_cmp set r ≡ true))
    → Answers (telling (with_pairs singles (bag_of ks)) (readers_told old ks)) (telling (with_pairs singles (bag_of ks)) (readers_told new ks)) a list
answers_told singles ks a old new none mid set list e f w l t g = record {
  bag = refl;
  only = λ r h. only r (t.only r (in_set list set g r h));
  all = λ r h. all r (or_cases (list_any (pair_reads a r) singles) _ (reader_in_either singles (bag_of ks) a r (list_any (reads_at (blocks_with (row_of a) 20 0) a r) ks)
      (λ i. found_reader (bag_of ks) ks (row_of a) a r refl l w.0 i) h));
  told = λ r h. told r (t.told r h);
}
  where
    by_cell : (r : ℕ) → contains nat_cmp mid r ≡ list_any (pair_reads a r) singles
    by_cell r = f r ∙ ap (λ b. b || list_any (pair_reads a r) singles) (ap (λ (us : List ℕ). list_any (λ k. is_at (nat_cmp r) k) us) e)

    only : (r : ℕ) → (contains nat_cmp mid r ≡ true) ⊎ (list_any (reads_at (blocks_with (row_of a) 20 0) a r) ks ≡ true) → IsReader (with_pairs singles (bag_of ks)) a r
    only r (inl h) = reader_by_cell singles (bag_of ks) a r (sym (by_cell r) ∙ h)
    only r (inr h) = reader_in_bag singles (bag_of ks) a r (reader_found (bag_of ks) ks (blocks_with (row_of a) 20 0) a r w.0 h)

    listed : (r : ℕ) → (contains nat_cmp set r ≡ true) ⊎ (is_one_of (readers_told old ks) r ≡ true) → (is_one_of list r ≡ true) ⊎ (is_one_of (readers_told old ks) r ≡ true)
    listed r (inl h) = inl (in_list list set g r h)
    listed r (inr h) = inr h

    all : (r : ℕ) → (list_any (pair_reads a r) singles ≡ true) ⊎ (list_any (reads_at (blocks_with (row_of a) 20 0) a r) ks ≡ true) → (is_one_of list r ≡ true) ⊎ (is_one_of (readers_told old ks) r ≡ true)
    all r (inl h) = inl (in_list list set g r (t.stays r (by_cell r ∙ h)))
    all r (inr h) = listed r (t.all r h)

    told : (r : ℕ) → (is_one_of (readers_told old ks) r ≡ true) ⊎ (contains nat_cmp set r ≡ true) → (is_one_of (readers_told old ks) r ≡ true) ⊎ (is_one_of list r ≡ true)
    told r (inl h) = inl h
    told r (inr h) = inr (in_list list set g r h)

-- apart from all that is read by rectangles those by cell are
pub answers_apart : (singles : List RangePair) (ks : List Piece) (around : Option Area) (a : ℕ) (told : List ℕ) (none set : BTreeSet ℕ) (list : List ℕ) → none.keys ≡ []
    → ((r : ℕ) → contains nat_cmp set r ≡ (contains nat_cmp none r || list_any (pair_reads a r) singles)) → IsAround around (bag_of ks) → has_cell around a ≡ false
    → ((r : ℕ) → Contains list r ↔ (contains nat_cmp set r ≡ true))
    → Answers (telling (with_pairs singles (bag_of ks)) told) (telling (with_pairs singles (bag_of ks)) told) a list
answers_apart singles ks around a told none set list e f w n g = record {
  bag = refl;
  only = λ r h. reader_by_cell singles (bag_of ks) a r (sym (by_cell r) ∙ in_set list set g r h);
  all = λ r h. all r (or_cases (list_any (pair_reads a r) singles) _ (reader_in_either singles (bag_of ks) a r (has_cell around a) (λ i. w i.0 a i.2 i.3) h));
  told = λ r h. inl h;
}
  where
    by_cell : (r : ℕ) → contains nat_cmp set r ≡ list_any (pair_reads a r) singles
    by_cell r = f r ∙ ap (λ b. b || list_any (pair_reads a r) singles) (ap (λ (us : List ℕ). list_any (λ k. is_at (nat_cmp r) k) us) e)

    all : (r : ℕ) → (list_any (pair_reads a r) singles ≡ true) ⊎ (has_cell around a ≡ true) → (is_one_of list r ≡ true) ⊎ (is_one_of told r ≡ true)
    all r (inl h) = inl (in_list list set g r (by_cell r ∙ h))
    all r (inr h) = clash (has_cell around a) h n
