-- A tenth of a digit and a fraction, within the limits.
use Rattle.wi_fraction.proofs.Vocabulary.{◌≡◌, ◌≢◌, ◌⊎◌, ℕ, zero, suc, ◌+◌, ◌*◌, ◌/◌, ◌%◌, ◌<◌, ◌≤◌, pos, false, None, refl, ◌∣◌, ap, ◌∙◌, sym, subst, inl, inr, arith, le-div, le_of_dvd, div-add-mod', mul-le-mul_left, mul-le-mul_right, gcd, is_gcd, dvd_of_dvd-mul, number_of, max_size}
use Rattle.std.proofs.Math.Nat.{mod-eq-zero_of_dvd}
use Rattle.wi_fraction.proofs.Divisors.{coprime_mul, coprime_dvd, gcd_pos}
use Rattle.wi_fraction.proofs.Fineness.{IsTooFine, none_from_fine, gcd_shifted, number_of-multiplied}

-- the fifth of c * d + n by quotients and remainders
pub fifth_of : (c n d : ℕ) → (c * (d % 5) + n % 5) % 5 ≡ 0 → c * d + n ≡ (c * (d / 5) + n / 5 + (c * (d % 5) + n % 5) / 5) * 5
fifth_of c n d e =
    let first : c * d ≡ c * (d / 5 * 5 + d % 5) = ap (λ v. c * v) (sym (div-add-mod' d 5)) in
    omega (arith, first, e)

-- a tenth by way of the fifth
pub tenth_divided : (c n d : ℕ) → (c * (d % 5) + n % 5) % 5 ≡ 0 → number_of (pos (c * (d / 5) + n / 5 + (c * (d % 5) + n % 5) / 5)) (2 * d) ≡ number_of (pos (c * d + n)) (d * 10)
tenth_divided c n d e =
    let low : d * 10 ≡ 2 * d * 5 = omega arith in
    sym (rw (fifth_of c n d e, low) (number_of-multiplied false (c * (d / 5) + n / 5 + (c * (d % 5) + n % 5) / 5) (2 * d) 5 (omega arith)))

rest_five : (c n d : ℕ) → (c * d + n) % 5 ≡ 0 → (c * (d % 5) + n % 5) % 5 ≡ 0
rest_five c n d e =
    let first : c * d ≡ c * (d / 5 * 5 + d % 5) = ap (λ v. c * v) (sym (div-add-mod' d 5)) in
    omega (arith, first, e)

divisor_of_five : (k : ℕ) → k ∣ 5 → (k ≡ 1) ⊎ (k ≡ 5)
divisor_of_five zero h = absurd (omega (arith, mod-eq-zero_of_dvd zero h))
divisor_of_five (suc zero) h = inl refl
divisor_of_five (suc (suc zero)) h = absurd (omega (arith, mod-eq-zero_of_dvd 2 h))
divisor_of_five (suc (suc (suc zero))) h = absurd (omega (arith, mod-eq-zero_of_dvd 3 h))
divisor_of_five (suc (suc (suc (suc zero)))) h = absurd (omega (arith, mod-eq-zero_of_dvd 4 h))
divisor_of_five (suc (suc (suc (suc (suc zero))))) h = inr refl
divisor_of_five (suc (suc (suc (suc (suc (suc k)))))) h = absurd (omega (arith, le_of_dvd {n = 5} (omega arith) h))

-- five is prime
coprime_five : (n : ℕ) → n % 5 ≢ 0 → gcd n 5 ≡ 1
coprime_five n h = elim (divisor_of_five (gcd n 5) (is_gcd n 5).1) [
  | inl e ↦ e
  | inr e ↦ absurd (h (mod-eq-zero_of_dvd 5 (subst (λ k. k ∣ n) e (is_gcd n 5).0)))
]

-- where five does not divide c * d + n, at most a two is common to it and 10 * d
common_two : (c n d : ℕ) → 0 < d → (c * (d % 5) + n % 5) % 5 ≢ 0 → gcd n d ≡ 1 → gcd (c * d + n) (d * 10) ≤ 2
common_two c n d dp apart one =
    let top = c * d + n in
    let k = gcd top (d * 10) in
    let i = is_gcd top (d * 10) in
    let no_five : gcd top 5 ≡ 1 = coprime_five top (λ e. apart (rest_five c n d e)) in
    let no_d : gcd top d ≡ 1 = gcd_shifted c d n ∙ one in
    let both : gcd top (d * 5) ≡ 1 = coprime_mul top d 5 no_d no_five in
    let alone : gcd k (d * 5) ≡ 1 = coprime_dvd k top (d * 5) i.0 both in
    let parts : d * 10 ≡ d * 5 * 2 = omega arith in
    let two : k ∣ 2 = dvd_of_dvd-mul k (d * 5) 2 alone (subst (λ v. k ∣ v) parts i.1) in
    le_of_dvd {n = 2} (omega arith) two

tenth_fine : (c n d : ℕ) → 0 < d → (c * (d % 5) + n % 5) % 5 ≢ 0 → gcd n d ≡ 1 → max_size / 5 < d → IsTooFine (c * d + n) (d * 10)
tenth_fine c n d dp apart one large =
    let k = gcd (c * d + n) (d * 10) in
    let kp : 0 < k = gcd_pos (c * d + n) (d * 10) (omega arith) in
    let small : d * 5 * k ≤ d * 5 * 2 = mul-le-mul_left (d * 5) (common_two c n d dp apart one) in
    let larger : d * 5 ≤ d * 10 / k = le-div (d * 5) (d * 10) k kp (omega (arith, small)) in
    omega (arith, larger, large)

-- a digit times a number is at most nine times it
pub digit_times : (c n : ℕ) → c < 10 → c * n ≤ 9 * n
digit_times c n h = mul-le-mul_right n (omega (arith, h))

pub tenth_none : (c n d : ℕ) → 0 < d → (c * (d % 5) + n % 5) % 5 ≢ 0 → gcd n d ≡ 1 → max_size / 5 < d → None ≡ number_of (pos (c * d + n)) (d * 10)
tenth_none c n d dp apart one large = none_from_fine false (c * d + n) (d * 10) (tenth_fine c n d dp apart one large)
