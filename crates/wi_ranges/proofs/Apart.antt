-- The halves of a block share no block.
use Rattle.wi_ranges.proofs.Words.{◌≡◌, ℕ, zero, suc, ◌+◌, ◌-◌, ◌^◌, ◌<◌, ◌≤◌, true, false, sym, ap, ◌∙◌, arith, ⊎_elim, pow-succ', pow_pos, and_parts, and_right, cases_Bool, Block, Numbered, block, blocks_within, blocks_in, first_row, last_row, Piece, is_among, is_one, is_piece}
use Rattle.wi_ranges.proofs.LargestLemmas.{Whole, of_row, which}

-- a block of a cut begins in the block that is cut
abbrev Begins : ℕ → ℕ → Block → Type 0
Begins k f x = (f ≤ x.first) × (x.first < f + 2 ^ k)

begins_whole : (a b k f : ℕ) (x : Block) → Whole a b k f x → Begins k f x
begins_whole a b k f x w =
    let first : f ≡ x.first = ap (λ (y : Block). y.first) w.1 in
    let pos : 0 < 2 ^ k = pow_pos k in
    (omega (arith, first), omega (arith, first, pos))

begins : (a b k f : ℕ) (x : Block) → is_among x (blocks_within a b k f) ≡ true → Begins k f x
begins a b zero f x h = begins_whole a b 0 f x (of_row a b f x h)
begins a b (suc k) f x h =
    let twice = pow-succ' 2 k in
    ⊎_elim (λ w. begins_whole a b (suc k) f x w)
    (λ o. ⊎_elim
    (λ u. let s = begins a b k f x u in (s.0, omega (arith, s.1, twice)))
    (λ u. let s = begins a b k (f + 2 ^ k) x u in (omega (arith, s.0), omega (arith, s.1, twice)))
    o.1)
    (which a b k f x h)

pub halves_apart : (x u l : Block) (m : Numbered) → u ≡ block (x.level - 1) x.first → l ≡ block (x.level - 1) (x.first + 2 ^ (x.level - 1))
    → (q : Piece) → is_piece (blocks_in m.pair l) m q ≡ true → is_piece (blocks_in m.pair u) m q ≡ false
halves_apart x u l m e g q h =
    let p = m.pair in
    let a = first_row p in
    let b = last_row p in
    let k = x.level - 1 in
    let lower = begins a b k (x.first + 2 ^ k) q.0 (sym (ap (λ (y : Block). is_among q.0 (blocks_in p y)) g) ∙ (and_parts (is_one m q.1) (is_among q.0 (blocks_in p l)) h).1) in
    ⊎_elim
    (λ t. let upper = begins a b k x.first q.0 (sym (ap (λ (y : Block). is_among q.0 (blocks_in p y)) e) ∙ t) in absurd (omega (arith, lower.0, upper.1)))
    (λ t. and_right _ _ t)
    (cases_Bool (is_among q.0 (blocks_in p u)))
