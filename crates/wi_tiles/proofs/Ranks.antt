-- The count of ones below a bit, and what a change of one bit makes of it.
use Rattle.wi_tiles.proofs.Words.{◌≡◌, ℕ, ◌+◌, ◌*◌, ◌/◌, ◌%◌, ◌^◌, ◌<◌, ◌≤◌, sym, refl, ap, arith, suc, zero, ◌∙◌, count_ones, bit_at, mod-pow-add, ones_cat, mod_below, pow_pos, bit_at-lt, ◌≢◌, ◌⊎◌, inl, inr, ⊎_elim, cases_lt, div-add-mod', mod-eq_of_lt, rank}
use Rattle.std.specs.Int.Count.{ones}

ones_of_bit : (b : ℕ) → b < 2 → ones b ≡ b
unfolding ones lib.Count.ones_in
ones_of_bit zero h = refl
ones_of_bit (suc zero) h = refl
ones_of_bit (suc (suc b)) h = omega arith

-- one bit more
pub rank-suc : (n k : ℕ) → rank n (suc k) ≡ rank n k + bit_at n k
rank-suc n k =
    let whole : n % 2 ^ (1 + k) ≡ (n / 2 ^ k % 2 ^ 1) * 2 ^ k + n % 2 ^ k = mod-pow-add n 1 k in
    let step : suc k ≡ 1 + k = omega arith in
    let cut : ones ((n / 2 ^ k % 2 ^ 1) * 2 ^ k + n % 2 ^ k) ≡ ones (n / 2 ^ k % 2 ^ 1) + ones (n % 2 ^ k) = ones_cat k (n / 2 ^ k % 2 ^ 1) (n % 2 ^ k) (mod_below n (2 ^ k) (pow_pos k)) in
    let one : ones (bit_at n k) ≡ bit_at n k = ones_of_bit (bit_at n k) (bit_at-lt n k) in
    let made : ones (n % 2 ^ suc k) ≡ ones (n % 2 ^ (1 + k)) = ap (λ j. ones (n % 2 ^ j)) step in
    omega (arith, made ∙ ap ones whole ∙ cut, one)

pub rank-zero : (n : ℕ) → rank n 0 ≡ 0
unfolding ones lib.Count.ones_in
rank-zero n = ap ones (mod_one n)
  where
    mod_one : (m : ℕ) → m % 2 ^ 0 ≡ 0
    mod_one m = omega arith

-- the count rises, and past a set bit strictly
pub rank_grows : (n i j : ℕ) → i ≤ j → rank n i ≤ rank n j
rank_grows n i zero h = omega (arith, ap (λ k. rank n k) (let e : i ≡ 0 = omega arith in e))
rank_grows n i (suc j) h = elim (le_or i j h) [ inl e ↦ omega (arith, ap (λ k. rank n k) e) | inr l ↦ omega (arith, rank_grows n i j l, rank-suc n j) ]
  where
    le_or : (i j : ℕ) → i ≤ suc j → (i ≡ suc j) ⊎ (i ≤ j)
    le_or i j h = ⊎_elim (λ l. inr (omega arith)) (λ l. inl (omega arith)) (cases_lt i (suc j))

pub rank_below : (n i j : ℕ) → i < j → bit_at n i ≡ 1 → rank n i < rank n j
rank_below n i j h e = omega (arith, rank-suc n i, rank_grows n (suc i) j (let l : suc i ≤ j = omega arith in l), e)

-- the count of ones of a whole word
pub rank-whole : (n : ℕ) → n < 2 ^ 64 → rank n 64 ≡ count_ones n
rank-whole n h = ap count_ones (mod-eq_of_lt h)

pub rank_at_most : (n : ℕ) → rank n 64 ≤ count_ones n
rank_at_most n =
    let whole : n / 2 ^ 64 * 2 ^ 64 + n % 2 ^ 64 ≡ n = omega arith in
    let cut : ones (n / 2 ^ 64 * 2 ^ 64 + n % 2 ^ 64) ≡ ones (n / 2 ^ 64) + ones (n % 2 ^ 64) = ones_cat 64 (n / 2 ^ 64) (n % 2 ^ 64) (mod_below n (2 ^ 64) (pow_pos 64)) in
    let all : ones n ≡ ones (n / 2 ^ 64) + ones (n % 2 ^ 64) = ap ones (sym whole) ∙ cut in
    omega (arith, all)

-- all ones are those below a bit, where no other stands from it on
pub rank_with : (n k b : ℕ) → b < 2 → n / 2 ^ k ≡ b → count_ones n ≡ b + rank n k
rank_with n k b small is =
    let whole : ones (n / 2 ^ k * 2 ^ k + n % 2 ^ k) ≡ ones n = ap ones (div-add-mod' n (2 ^ k)) in
    let cut : ones (n / 2 ^ k * 2 ^ k + n % 2 ^ k) ≡ ones (n / 2 ^ k) + ones (n % 2 ^ k) = ones_cat k (n / 2 ^ k) (n % 2 ^ k) (mod_below n (2 ^ k) (pow_pos k)) in
    let last : ones (n / 2 ^ k) ≡ b = ap ones is ∙ ones_of_bit b small in
    omega (arith, whole, cut, last)

-- below a changed bit all counts stay, above it they are one more
pub rank_same : (m n k : ℕ) → ((i : ℕ) → i < k → bit_at m i ≡ bit_at n i) → rank m k ≡ rank n k
rank_same m n zero same = rank-zero m ∙ sym (rank-zero n)
rank_same m n (suc k) same = omega (arith, rank-suc m k, rank-suc n k, rank_same m n k (λ i l. same i (let q : i < suc k = omega arith in q)), same k (let q : k < suc k = omega arith in q))

pub rank_set : (m n k j : ℕ) → bit_at m k ≡ 1 → bit_at n k ≡ 0 → ((i : ℕ) → i < j → i ≢ k → bit_at m i ≡ bit_at n i) → k < j → rank m j ≡ rank n j + 1
rank_set m n k zero set clear same h = omega arith
rank_set m n k (suc j) set clear same h = elim (lt_or k j h) [
  | inl e ↦
      let low : rank m k ≡ rank n k = rank_same m n k (λ i l. same i (let q : i < suc j = omega arith in q) (λ z. let q : i ≡ k = z in omega arith)) in
      omega (arith, low, rank-suc m k, rank-suc n k, ap (λ x. rank m (suc x)) e, ap (λ x. rank n (suc x)) e, set, clear)
  | inr l ↦
      omega (arith, rank-suc m j, rank-suc n j, rank_set m n k j set clear (λ i b. same i (let q : i < suc j = omega arith in q)) l, same j (let q : j < suc j = omega arith in q) (λ z. let q : j ≡ k = z in omega arith))
]
  where
    lt_or : (k j : ℕ) → k < suc j → (k ≡ j) ⊎ (k < j)
    lt_or k j h = ⊎_elim (λ l. inr l) (λ l. inl (omega arith)) (cases_lt k j)
