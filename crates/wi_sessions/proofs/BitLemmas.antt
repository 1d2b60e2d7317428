-- Laws of words with a bit for each session.
use Rattle.wi_sessions.proofs.Words.{◌≡◌, ◌==◌, ◌<◌, ◌≤◌, ◌-◌, ◌*◌, ◌^◌, ◌/◌, ◌%◌, ◌||◌, ◌&&◌, ◌∙◌, ℕ, zero, suc, false, not, min, max, refl, sym, ap, arith, ⊎_elim, nat_lt, bit_and, bit_at, bit_not, w64, bit_or, cases_eq, cases_lt, eq-eqb, ne_eqb, lt-ltb, le-ltb, bit_at_and, bit_at_or, bit_at_not, bit_at-lt, bit_at-zero, bit_at_above, bit_at_ones, bit_at_ones_above, bit_at_set_same, bit_at_set_other, ones_shr, same_from_bits, has_bit}

-- ---- numbers below two

-- what is so of 0 and 1 is so of two numbers below 2
below_two : (P : ℕ → ℕ → Type 0) → P zero zero → P zero (suc zero) → P (suc zero) zero → P (suc zero) (suc zero) → (a b : ℕ) → a < 2 → b < 2 → P a b
below_two P none last first both zero zero l m = none
below_two P none last first both zero (suc zero) l m = last
below_two P none last first both (suc zero) zero l m = first
below_two P none last first both (suc zero) (suc zero) l m = both
below_two P none last first both zero (suc (suc b)) l m = absurd (omega (arith, m))
below_two P none last first both (suc zero) (suc (suc b)) l m = absurd (omega (arith, m))
below_two P none last first both (suc (suc a)) b l m = absurd (omega (arith, l))

one_of_both : (a b : ℕ) → a < 2 → b < 2 → (max a b == 1) ≡ ((a == 1) || (b == 1))
one_of_both = below_two (λ (a b : ℕ). (max a b == 1) ≡ ((a == 1) || (b == 1))) refl refl refl refl

two_both : (a b : ℕ) → a < 2 → b < 2 → (min a b == 1) ≡ ((a == 1) && (b == 1))
two_both = below_two (λ (a b : ℕ). (min a b == 1) ≡ ((a == 1) && (b == 1))) refl refl refl refl

one_alone : (a b : ℕ) → a < 2 → b < 2 → (min a (1 - b) == 1) ≡ ((a == 1) && not (b == 1))
one_alone = below_two (λ (a b : ℕ). (min a (1 - b) == 1) ≡ ((a == 1) && not (b == 1))) refl refl refl refl

same_below_two : (a b : ℕ) → a < 2 → b < 2 → (a == 1) ≡ (b == 1) → a ≡ b
same_below_two = below_two (λ (a b : ℕ). (a == 1) ≡ (b == 1) → a ≡ b) (λ h. refl) (λ h. cc) (λ h. cc) (λ h. refl)

least : (n : ℕ) → min 0 n ≡ 0
least zero = refl
least (suc n) = let low : 0 ≤ suc n = omega arith in omega (arith, low)

beside_zero : (n : ℕ) → max 0 n ≡ n
beside_zero zero = refl
beside_zero (suc n) = omega arith

-- ---- bits of words

pub none_in_zero : (i : ℕ) → has_bit i 0 ≡ false
none_in_zero i = ap (λ n. n == 1) (bit_at-zero i)

pub has_or : (a b i : ℕ) → has_bit i (bit_or a b) ≡ (has_bit i a || has_bit i b)
has_or a b i = ap (λ n. n == 1) (bit_at_or a b i) ∙ one_of_both (bit_at a i) (bit_at b i) (bit_at-lt a i) (bit_at-lt b i)

pub has_and : (a b i : ℕ) → has_bit i (bit_and a b) ≡ (has_bit i a && has_bit i b)
has_and a b i = ap (λ n. n == 1) (bit_at_and a b i) ∙ two_both (bit_at a i) (bit_at b i) (bit_at-lt a i) (bit_at-lt b i)

none_above : (a i : ℕ) → a < 2 ^ 64 → 64 ≤ i → has_bit i a ≡ false
none_above a i l h = ap (λ n. n == 1) (bit_at_above a 64 i l h)

pub has_without : (a b i : ℕ) → a < 2 ^ 64 → b < 2 ^ 64 → has_bit i (bit_and a (bit_not w64 b)) ≡ (has_bit i a && not (has_bit i b))
has_without a b i l m = ⊎_elim below beyond (cases_lt i 64)
  where
    one : has_bit i (bit_and a (bit_not w64 b)) ≡ (min (bit_at a i) (bit_at (bit_not w64 b) i) == 1)
    one = ap (λ n. n == 1) (bit_at_and a (bit_not w64 b) i)

    below : i < 64 → has_bit i (bit_and a (bit_not w64 b)) ≡ (has_bit i a && not (has_bit i b))
    below h =
        one ∙ ap (λ n. min (bit_at a i) n == 1) (bit_at_not w64 b i m h)
        ∙ one_alone (bit_at a i) (bit_at b i) (bit_at-lt a i) (bit_at-lt b i)

    beyond : 64 ≤ i → has_bit i (bit_and a (bit_not w64 b)) ≡ (has_bit i a && not (has_bit i b))
    beyond h =
        one ∙ ap (λ n. min n (bit_at (bit_not w64 b) i) == 1) (bit_at_above a 64 i l h)
        ∙ ap (λ n. n == 1) (least (bit_at (bit_not w64 b) i))
        ∙ sym (ap (λ t. t && not (has_bit i b)) (none_above a i l h))

-- ---- one bit

alone : (x i : ℕ) → bit_at x i ≡ bit_at (bit_or 0 x) i
alone x i = sym (bit_at_or 0 x i ∙ ap (λ n. max n (bit_at x i)) (bit_at-zero i) ∙ beside_zero (bit_at x i))

pub has_shifted : (k j : ℕ) → k < 64 → has_bit j (1 * 2 ^ k % 2 ^ 64) ≡ (j == k)
has_shifted k j l = ⊎_elim same other (cases_eq j k)
  where
    same : j ≡ k → has_bit j (1 * 2 ^ k % 2 ^ 64) ≡ (j == k)
    same e =
        ap (λ i. has_bit i (1 * 2 ^ k % 2 ^ 64)) e
        ∙ ap (λ n. n == 1) (alone (1 * 2 ^ k % 2 ^ 64) k ∙ bit_at_set_same w64 0 k l) ∙ sym (eq-eqb j k e)

    other : (j ≡ k → ⊥) → has_bit j (1 * 2 ^ k % 2 ^ 64) ≡ (j == k)
    other n =
        ap (λ m. m == 1) (alone (1 * 2 ^ k % 2 ^ 64) j ∙ bit_at_set_other w64 0 k l j n ∙ bit_at-zero j) ∙ sym (ne_eqb j k n)

-- ---- the bits of so many sessions

pub none_of_none : (count j : ℕ) → count ≡ 0 → has_bit j 0 ≡ nat_lt j count
none_of_none count j e = none_in_zero j ∙ sym (le-ltb j count (omega (arith, e)))

pub has_ones : (count j : ℕ) → count ≤ 64 → has_bit j ((2 ^ 64 - 1) / 2 ^ (64 - count)) ≡ nat_lt j count
has_ones count j l =
    ap (λ n. has_bit j n) (ones_shr 64 (64 - count) (let h : 64 - count ≤ 64 = omega arith in h) ∙ ap (λ k. 2 ^ k - 1) (let e : 64 - (64 - count) ≡ count = omega (arith, l) in e))
    ∙ ⊎_elim below beyond (cases_lt j count)
  where
    below : j < count → has_bit j (2 ^ count - 1) ≡ nat_lt j count
    below h = ap (λ n. n == 1) (bit_at_ones count j h) ∙ sym (lt-ltb j count h)

    beyond : count ≤ j → has_bit j (2 ^ count - 1) ≡ nat_lt j count
    beyond h = ap (λ n. n == 1) (bit_at_ones_above count j h) ∙ sym (le-ltb j count h)

-- ---- words with the same bits

pub same_words : (a b : ℕ) → ((j : ℕ) → has_bit j a ≡ has_bit j b) → a ≡ b
same_words a b h = same_from_bits a b (λ i. same_below_two (bit_at a i) (bit_at b i) (bit_at-lt a i) (bit_at-lt b i) (h i))
