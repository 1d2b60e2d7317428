-- The bag of some pairs and of those of a bag.
use Rattle.wi_ranges.proofs.Words.{◌≡◌, ◌==◌, ℕ, ◌+◌, ◌-◌, Bool, true, false, ◌||◌, cond, List, [], ◌∷◌, length, refl, sym, ap, ◌∙◌, arith, if◌then◌else◌, list_any, sum_by, true≢false, and_parts, and_from, or_left, or_right, eqb-true, eq-eqb, sum_by-cons, or_assoc, is_within, RangePair, blocks_of, Bag, count_of, is_same, pair_area, pieces_of, raise, HasOneMore, HasOneLess, IsReader, pair_reads, blocks_in_all, with_pairs, HasPairMore}
use Rattle.wi_ranges.proofs.Exact.{same_is, same_self}
use Rattle.wi_ranges.proofs.BagLemmas.{one_more, one_less}
use Rattle.wi_ranges.proofs.Sums.{raise_count, raise_pieces}

-- ---- how many there are

-- how much p adds to the count of the pair q
abbrev adds : RangePair → RangePair → ℕ
adds q p = cond (is_same q p) 1 0

count_with : (ps : List RangePair) (bag : Bag) (q : RangePair) → count_of (with_pairs ps bag) q ≡ sum_by (adds q) ps + count_of bag q
count_with [] bag q = omega arith
count_with (p ∷ ps) bag q =
    let one = raise_count p (with_pairs ps bag) q in
    let more = sum_by-cons (adds q) p ps in
    let rest = count_with ps bag q in
    omega (arith, one, more, rest)

pub pieces_with : (ps : List RangePair) (bag : Bag) → pieces_of (with_pairs ps bag) ≡ blocks_in_all ps + pieces_of bag
pieces_with [] bag = omega arith
pieces_with (p ∷ ps) bag =
    let one = raise_pieces p (with_pairs ps bag) in
    let more = sum_by-cons (λ (q : RangePair). length (blocks_of q)) p ps in
    let rest = pieces_with ps bag in
    omega (arith, one, more, rest)

pub more_by_cell : (p : RangePair) (ps qs : List RangePair) (bag : Bag) → HasPairMore p ps qs → HasOneMore p (with_pairs ps bag) (with_pairs qs bag)
more_by_cell p ps qs bag more = one_more p (with_pairs ps bag) (with_pairs qs bag) (λ q.
    let old = count_with ps bag q in
    let new = count_with qs bag q in
    let one = more (adds q) in
    omega (arith, old, new, one))

pub less_by_cell : (p : RangePair) (ps qs : List RangePair) (bag : Bag) → HasPairMore p qs ps → HasOneLess p (with_pairs ps bag) (with_pairs qs bag)
less_by_cell p ps qs bag more = one_less p (with_pairs ps bag) (with_pairs qs bag) (λ q.
    let old = count_with ps bag q in
    let new = count_with qs bag q in
    let one = more (adds q) in
    omega (arith, old, new, one))

pub more_in_bag : (p : RangePair) (ps : List RangePair) (bag new : Bag) → HasOneMore p bag new → HasOneMore p (with_pairs ps bag) (with_pairs ps new)
more_in_bag p ps bag new more q = by (is_same p q) (more q)
  where
    by : (b : Bool) → count_of new q ≡ (if b then count_of bag q + 1 else count_of bag q)
        → count_of (with_pairs ps new) q ≡ (if b then count_of (with_pairs ps bag) q + 1 else count_of (with_pairs ps bag) q)
    by true e = omega (arith, e, count_with ps bag q, count_with ps new q)
    by false e = omega (arith, e, count_with ps bag q, count_with ps new q)

adds_none : (q : RangePair) (ps : List RangePair) → list_any (is_same q) ps ≡ false → sum_by (adds q) ps ≡ 0
adds_none q [] h = refl
adds_none q (p ∷ ps) h = sum_by-cons (adds q) p ps ∙ by (is_same q p) h (adds_none q ps)
  where
    by : (b : Bool) → (b || list_any (is_same q) ps) ≡ false → (list_any (is_same q) ps ≡ false → sum_by (adds q) ps ≡ 0) → cond b 1 0 + sum_by (adds q) ps ≡ 0
    by true e r = absurd (true≢false e)
    by false e r = omega (arith, r e)

pub less_in_bag : (p : RangePair) (ps : List RangePair) (bag new : Bag) → list_any (is_same p) ps ≡ false → HasOneLess p bag new → HasOneLess p (with_pairs ps bag) (with_pairs ps new)
less_in_bag p ps bag new none less q = by (is_same p q) refl (less q)
  where
    by : (b : Bool) → is_same p q ≡ b → count_of new q ≡ (if b then count_of bag q - 1 else count_of bag q)
        → count_of (with_pairs ps new) q ≡ (if b then count_of (with_pairs ps bag) q - 1 else count_of (with_pairs ps bag) q)
    by true s e =
        let no : sum_by (adds q) ps ≡ 0 = ap (λ (x : RangePair). sum_by (adds x) ps) (sym (same_is p q s)) ∙ adds_none p ps none in
        omega (arith, e, no, count_with ps bag q, count_with ps new q)
    by false s e = omega (arith, e, count_with ps bag q, count_with ps new q)

-- ---- who reads a cell

reader_of_pair : (p : RangePair) (bag : Bag) (a r : ℕ) → pair_reads a r p ≡ true → IsReader (raise p bag) a r
reader_of_pair p bag a r h =
    let parts = and_parts (is_within (pair_area p) a) (p.reader == r) h in
    let one : adds p p ≡ 1 = ap (λ b. cond b 1 0) (same_self p) in
    (p, eqb-true p.reader r parts.1, omega (arith, one, raise_count p bag p), parts.0)

still_reader : (p : RangePair) (bag : Bag) (a r : ℕ) → IsReader bag a r → IsReader (raise p bag) a r
still_reader p bag a r h = (h.0, h.1, omega (arith, h.2, raise_count p bag h.0), h.3)

pub reader_in_bag : (ps : List RangePair) (bag : Bag) (a r : ℕ) → IsReader bag a r → IsReader (with_pairs ps bag) a r
reader_in_bag [] bag a r h = h
reader_in_bag (p ∷ ps) bag a r h = still_reader p (with_pairs ps bag) a r (reader_in_bag ps bag a r h)

pub reader_by_cell : (ps : List RangePair) (bag : Bag) (a r : ℕ) → list_any (pair_reads a r) ps ≡ true → IsReader (with_pairs ps bag) a r
reader_by_cell [] bag a r h = absurd (true≢false (sym h))
reader_by_cell (p ∷ ps) bag a r h = by (pair_reads a r p) refl h (reader_by_cell ps bag a r)
  where
    by : (b : Bool) → pair_reads a r p ≡ b → (b || list_any (pair_reads a r) ps) ≡ true → (list_any (pair_reads a r) ps ≡ true → IsReader (with_pairs ps bag) a r)
        → IsReader (raise p (with_pairs ps bag)) a r
    by true e k f = reader_of_pair p (with_pairs ps bag) a r e
    by false e k f = still_reader p (with_pairs ps bag) a r (f k)

-- where what is found has the readers of the bag, a reader is one by these pairs, or is found
pub reader_in_either : (ps : List RangePair) (bag : Bag) (a r : ℕ) (found : Bool) → (IsReader bag a r → found ≡ true) → IsReader (with_pairs ps bag) a r → (list_any (pair_reads a r) ps || found) ≡ true
reader_in_either [] bag a r found f h = f h
reader_in_either (p ∷ ps) bag a r found f h =
    or_assoc (pair_reads a r p) (list_any (pair_reads a r) ps) found ∙ by (is_same h.0 p) refl (reader_in_either ps bag a r found f)
  where
    by : (b : Bool) → is_same h.0 p ≡ b → (IsReader (with_pairs ps bag) a r → (list_any (pair_reads a r) ps || found) ≡ true)
        → (pair_reads a r p || (list_any (pair_reads a r) ps || found)) ≡ true
    by true s g = or_left _ _ (ap (pair_reads a r) (sym (same_is h.0 p s)) ∙ and_from _ _ h.3 (eq-eqb h.0.reader r h.1))
    by false s g =
        let none : adds h.0 p ≡ 0 = ap (λ b. cond b 1 0) s in
        or_right (pair_reads a r p) _ (g (h.0, h.1, omega (arith, none, h.2, raise_count p (with_pairs ps bag) h.0), h.3))
