-- The block of a pair that holds its first row.
use Rattle.wi_ranges.proofs.Words.{◌≡◌, ℕ, zero, suc, ◌+◌, ◌-◌, ◌^◌, ◌<◌, ◌≤◌, Bool, true, false, cond, [], refl, sym, ap, ◌∙◌, arith, ⊎_elim, nat_lt, nat_le, pow-succ', true≢false, and_parts, and_from, cases_lt, lt-ltb, le-leb, le-ltb, leb-true, ltb-true, Block, RangePair, block, lies_within, meets, blocks_in, half_with, first_row, last_row, holds, is_among, if◌then◌else◌}
use Rattle.wi_ranges.proofs.BlockLemmas.{blocks_within-here, halves_of}
use Rattle.wi_ranges.proofs.Found.{among_first, among_upper, among_lower, first_at_most}

-- the rows that a block has
abbrev Has : ℕ → Block → Type 0
Has r x = (x.first ≤ r) × (r < x.first + 2 ^ x.level)

has : (r : ℕ) (x : Block) → holds r x ≡ true → Has r x
has r x h = let s = and_parts (nat_le x.first r) (nat_lt r (x.first + 2 ^ x.level)) h in (leb-true x.first r s.0, ltb-true r (x.first + 2 ^ x.level) s.1)

holds_from : (r : ℕ) (x : Block) → Has r x → holds r x ≡ true
holds_from r x h = and_from _ _ (le-leb x.first r h.0) (lt-ltb r (x.first + 2 ^ x.level) h.1)

pub itself : (p : RangePair) (x : Block) → lies_within (first_row p) (last_row p) x ≡ true → is_among x (blocks_in p x) ≡ true
itself p x h = among_first x [] (blocks_in p x) (blocks_within-here (first_row p) (last_row p) x.level x.first h)

-- a block of one row that holds the first row lies within the rows
row_within : (a b k f : ℕ) → a ≤ b → f ≤ a → a < f + 2 ^ k → lies_within a b (block k f) ≡ false → 0 < k
row_within a b zero f l h i n = absurd (true≢false (sym (and_from _ _ (le-leb a f (omega (arith, h, i))) (le-leb (f + 2 ^ 0) (b + 1) (omega (arith, l, h)))) ∙ n))
row_within a b (suc k) f l h i n = omega arith

pub more_rows : (p : RangePair) (x : Block) → holds (first_row p) x ≡ true → lies_within (first_row p) (last_row p) x ≡ false → 0 < x.level
more_rows p x h n = let r = has (first_row p) x h in row_within (first_row p) (last_row p) x.level x.first (first_at_most p) r.0 r.1 n

-- of its halves, the one with the row holds it
half_has : (r k f : ℕ) → f ≤ r → r < f + 2 ^ (suc k) → Has r (block k (cond (nat_lt r (f + 2 ^ k)) f (f + 2 ^ k)))
half_has r k f h i =
    let twice = pow-succ' 2 k in
    ⊎_elim
    (λ l. let e : cond (nat_lt r (f + 2 ^ k)) f (f + 2 ^ k) ≡ f = ap (λ b. cond b f (f + 2 ^ k)) (lt-ltb r (f + 2 ^ k) l) in (omega (arith, e, h), omega (arith, e, l)))
    (λ l. let e : cond (nat_lt r (f + 2 ^ k)) f (f + 2 ^ k) ≡ f + 2 ^ k = ap (λ b. cond b f (f + 2 ^ k)) (le-ltb r (f + 2 ^ k) l) in (omega (arith, e, l), omega (arith, e, i, twice)))
    (cases_lt r (f + 2 ^ k))

half_holds_at : (r k f : ℕ) → 0 < k → f ≤ r → r < f + 2 ^ k → Has r (half_with r (block k f))
half_holds_at r zero f l h i = absurd (omega (arith, l))
half_holds_at r (suc k) f l h i = let e : suc k - 1 ≡ k = omega arith in rw e (half_has r k f h i)

pub half_holds : (r : ℕ) (x y : Block) → 0 < x.level → holds r x ≡ true → y ≡ half_with r x → holds r y ≡ true
half_holds r x y l h e = let s = has r x h in ap (λ z. holds r z) e ∙ holds_from r (half_with r x) (half_holds_at r x.level x.first l s.0 s.1)

-- and its blocks are blocks of the whole
pub among_half : (p : RangePair) (x y z : Block) → 0 < x.level → holds (first_row p) x ≡ true → lies_within (first_row p) (last_row p) x ≡ false → y ≡ half_with (first_row p) x
    → is_among z (blocks_in p y) ≡ true → is_among z (blocks_in p x) ≡ true
among_half p x y z l h n e t =
    by (nat_lt r (x.first + 2 ^ (x.level - 1))) (sym (ap (λ (v : Block). is_among z (blocks_in p v)) e) ∙ t)
  where
    r : ℕ
    r = first_row p

    rows : Has r x
    rows = has r x h

    m : meets r (last_row p) x ≡ true
    m = and_from _ _ (lt-ltb r (x.first + 2 ^ x.level) rows.1) (le-leb x.first (last_row p) (omega (arith, rows.0, first_at_most p)))

    upper : Block
    upper = block (x.level - 1) x.first

    lower : Block
    lower = block (x.level - 1) (x.first + 2 ^ (x.level - 1))

    by : (b : Bool) → is_among z (blocks_in p (block (x.level - 1) (if b then x.first else x.first + 2 ^ (x.level - 1)))) ≡ true → is_among z (blocks_in p x) ≡ true
    by true u = among_upper z (blocks_in p upper) (blocks_in p lower) (blocks_in p x) (halves_of p x upper lower refl refl n l m) u
    by false u = among_lower z (blocks_in p upper) (blocks_in p lower) (blocks_in p x) (halves_of p x upper lower refl refl n l m) u

pub row_there : (p : RangePair) (x : Block) (top : ℕ) → holds (first_row p) x ≡ true → x.first + 2 ^ x.level ≤ top → first_row p < top
row_there p x top h l = let s = has (first_row p) x h in omega (arith, s.1, l)
