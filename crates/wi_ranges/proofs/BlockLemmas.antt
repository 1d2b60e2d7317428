-- Laws of blocks of rows.
use Rattle.wi_ranges.proofs.Words.{◌≡◌, ℕ, zero, suc, ◌+◌, ◌-◌, ◌^◌, ◌<◌, ◌≤◌, true, false, cond, [], ◌∷◌, ◌++◌, refl, arith, nat_lt, ⊎_elim, cases_lt, pow_below, Block, RangePair, block, lies_within, meets, blocks_within, blocks_with, blocks_in, first_row, last_row, half_with}

-- a level of the sheet
pub small_level : (f k : ℕ) → f + 2 ^ k ≤ 1048576 → k < 32
small_level f k h = ⊎_elim (λ l. l) (λ l. let p : 2 ^ 31 < 2 ^ k = pow_below 31 k (omega arith) in absurd (omega (arith, p, h))) (cases_lt k 32)

pub blocks_within-here : (a b k f : ℕ) → lies_within a b (block k f) ≡ true → blocks_within a b k f ≡ block k f ∷ []
unfolding blocks_within
blocks_within-here a b zero f h = rw h
blocks_within-here a b (suc k) f h = rw h

fewer : (k : ℕ) → suc k - 1 ≡ k
fewer k = omega arith

pub blocks_within-halves : (a b k f : ℕ) → lies_within a b (block k f) ≡ false → 0 < k → meets a b (block k f) ≡ true
    → blocks_within a b k f ≡ blocks_within a b (k - 1) f ++ blocks_within a b (k - 1) (f + 2 ^ (k - 1))
unfolding blocks_within
blocks_within-halves a b zero f h l m = absurd (omega (arith, l))
blocks_within-halves a b (suc k) f h l m = rw (fewer, h, m)

pub blocks_within-apart : (a b k f : ℕ) → lies_within a b (block k f) ≡ false → meets a b (block k f) ≡ false → blocks_within a b k f ≡ []
unfolding blocks_within
blocks_within-apart a b zero f h m = rw h
blocks_within-apart a b (suc k) f h m = rw (h, m)

pub blocks_within-row : (a b k f : ℕ) → lies_within a b (block k f) ≡ false → k ≡ 0 → blocks_within a b k f ≡ []
unfolding blocks_within
blocks_within-row a b zero f h e = rw h
blocks_within-row a b (suc k) f h e = absurd (omega (arith, e))

pub halves_of : (p : RangePair) (x u l : Block) → u ≡ block (x.level - 1) x.first → l ≡ block (x.level - 1) (x.first + 2 ^ (x.level - 1))
    → lies_within (first_row p) (last_row p) x ≡ false → 0 < x.level → meets (first_row p) (last_row p) x ≡ true → blocks_in p x ≡ blocks_in p u ++ blocks_in p l
halves_of p x u l e g h k m = rw (e, g) (blocks_within-halves (first_row p) (last_row p) x.level x.first h k m)

pub blocks_with-row : (r k f : ℕ) → k ≡ 0 → blocks_with r k f ≡ block k f ∷ []
unfolding blocks_with
blocks_with-row r zero f e = refl
blocks_with-row r (suc k) f e = absurd (omega (arith, e))

pub blocks_with-next : (r k f : ℕ) → 0 < k → blocks_with r k f ≡ block k f ∷ blocks_with r (k - 1) (cond (nat_lt r (f + 2 ^ (k - 1))) f (f + 2 ^ (k - 1)))
unfolding blocks_with
blocks_with-next r zero f h = absurd (omega (arith, h))
blocks_with-next r (suc k) f h = rw fewer

pub half_of : (r : ℕ) (x h : Block) → h ≡ half_with r x → 0 < x.level → blocks_with r x.level x.first ≡ x ∷ blocks_with r h.level h.first
half_of r x h e k = rw e (blocks_with-next r x.level x.first k)
