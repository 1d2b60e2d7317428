-- The exact decimal of a number that is not negative reads back to it.
use Rattle.wi_fraction.proofs.Vocabulary.{◌≡◌, ◌≢◌, ℕ, zero, suc, ◌*◌, ◌/◌, ◌%◌, ◌^◌, ◌<◌, ◌≤◌, ◌⊎◌, pos, false, List, [], ◌∷◌, ◌++◌, length, ◌==◌, Option, Some, None, unsigned_abs, refl, is_ascii_digit, decimal, ◌∣◌, prefix_len, AllDigits, IsNumeral, ap, ◌∙◌, sym, subst, inl, inr, arith, cases_lt, nat_tests, append-nil, take_all, dvd_of_mod-eq-zero, mod-eq-zero_of_dvd, take-append_seam, drop-append_seam, drop-length, pow-suc, pow-zero, one-dvd, mul_comm, mul_right_comm, mul-one, mul-le-mul_left, div-mul_cancel, eq-one_of_dvd-one, dvd_of_mul-dvd-mul_right, mul-dvd-mul, pos_of_dvd_of_pos, gcd, is_gcd, dvd_of_dvd-mul, DecimalsReadBack, number_at, with_minus, max_size, number_at-some, padded, size_text, read_after, read_decimal, decimal_after, point_after, scaled_after, places, decimal_text}
use Rattle.wi_fraction.proofs.Divisors.{gcd_pos, coprime_divided, divided_dvd}
use Rattle.wi_fraction.proofs.Numbers.{number_of-lowest}
use Rattle.wi_fraction.proofs.Places.{all_divide, all_none, divides_one}
use Rattle.wi_fraction.proofs.ReadsBack.{scan, is_numeral-true, numeral, div_small, read_places_text, read_whole_text}
use Rattle.wi_fraction.proofs.Padded.{length-padded, digits_padded}
use Rattle.wi_fraction.proofs.Scanning.{own}
use Rattle.wi_fraction.proofs.Steps.{with_minus-abs}

-- ---- a denominator of 128 bits that divides a power of ten divides ten to the power 126

one_below_two : (d : ℕ) → 0 < d → d < 2 → d ≡ 1
one_below_two d h l = omega (arith, h, l)

few_one : (t d : ℕ) → d ≡ 1 → d ∣ 10 ^ t
few_one t d e = subst (λ n. n ∣ 10 ^ t) (sym e) (one-dvd (10 ^ t))

-- without its common divisor with ten, d divides the power below
divides_before : (e d : ℕ) → 0 < d → d ∣ 10 ^ suc e → d / gcd d 10 ∣ 10 ^ e
divides_before e d dp h =
    let g = gcd d 10 in
    let gp : 0 < g = gcd_pos d 10 (omega arith) in
    let low : d / g * g ≡ d = div-mul_cancel g (is_gcd d 10).0 in
    let ten : 10 / g * g ≡ 10 = div-mul_cancel g (is_gcd d 10).1 in
    let power : 10 ^ suc e ≡ 10 / g * 10 ^ e * g = pow-suc 10 e ∙ mul_comm (10 ^ e) 10 ∙ ap (λ n. n * 10 ^ e) (sym ten) ∙ mul_right_comm (10 / g) g (10 ^ e) in
    let scaled : d / g * g ∣ 10 / g * 10 ^ e * g = subst (λ n. d / g * g ∣ n) power (subst (λ n. n ∣ 10 ^ suc e) (sym low) h) in
    let over : d / g ∣ 10 / g * 10 ^ e = dvd_of_mul-dvd-mul_right _ gp scaled in
    dvd_of_dvd-mul (d / g) (10 / g) (10 ^ e) (coprime_divided d 10 (omega arith)) over

-- the step from one power of ten to the next
few_step : (e d : ℕ) → ((t b : ℕ) → 0 < b → b ∣ 10 ^ e → b < 2 ^ suc t → b ∣ 10 ^ t) → 0 < d → d ∣ 10 ^ suc e → (t : ℕ) → d < 2 ^ suc t → (1 < gcd d 10) ⊎ (gcd d 10 ≤ 1) → d ∣ 10 ^ t
few_step e d f dp h t l (inr small) =
    let gp : 0 < gcd d 10 = gcd_pos d 10 (omega arith) in
    let one : gcd d 10 ≡ 1 = omega (arith, gp, small) in
    let low : d / gcd d 10 * gcd d 10 ≡ d = div-mul_cancel (gcd d 10) (is_gcd d 10).0 in
    let same : d / gcd d 10 ≡ d = sym (mul-one (d / gcd d 10)) ∙ ap (λ n. d / gcd d 10 * n) (sym one) ∙ low in
    f t d dp (subst (λ n. n ∣ 10 ^ e) same (divides_before e d dp h)) l
few_step e d f dp h zero l (inl more) = few_one 0 d (one_below_two d dp l)
few_step e d f dp h (suc s) l (inl more) =
    let low : d / gcd d 10 * gcd d 10 ≡ d = div-mul_cancel (gcd d 10) (is_gcd d 10).0 in
    let half : d / gcd d 10 * 2 ≤ d / gcd d 10 * gcd d 10 = mul-le-mul_left (d / gcd d 10) more in
    let less : d / gcd d 10 < 2 ^ suc s = omega (arith, half, low, l, pow-suc 2 (suc s)) in
    let down : d / gcd d 10 ∣ 10 ^ s = f s (d / gcd d 10) (pos_of_dvd_of_pos (divided_dvd d 10) dp) (divides_before e d dp h) less in
    let up : d / gcd d 10 * gcd d 10 ∣ 10 ^ s * 10 = mul-dvd-mul (d / gcd d 10) (gcd d 10) down (is_gcd d 10).1 in
    subst (λ n. n ∣ 10 ^ suc s) low (subst (λ n. d / gcd d 10 * gcd d 10 ∣ n) (sym (pow-suc 10 s)) up)

few : (e t d : ℕ) → 0 < d → d ∣ 10 ^ e → d < 2 ^ suc t → d ∣ 10 ^ t
few zero t d dp h l = few_one t d (eq-one_of_dvd-one (subst (λ n. d ∣ n) (pow-zero 10) h))
few (suc e) t d dp h l = few_step e d (λ u b bp q m. few e u b bp q m) dp h t l (cases_lt 1 (gcd d 10))

pub decimal_few : (k d : ℕ) → 0 < d → d ≤ max_size → 10 ^ k % d ≡ 0 → 10 ^ 126 % d ≡ 0
decimal_few k d dp fits e = mod-eq-zero_of_dvd d (few k 126 d dp (dvd_of_mod-eq-zero d e) (omega (arith, fits)))

-- ---- reading

pub read_scanned : (ds rest : List ℕ) → AllDigits 10 ds → prefix_len is_ascii_digit rest ≡ 0 → read_decimal (ds ++ rest) ≡ decimal_after ds rest
unfolding read_decimal
read_scanned ds rest h e = rw (scan ds rest (own.from ds h) e, take-append_seam ds rest, drop-append_seam ds rest) refl

pub some_digits : (ds : List ℕ) → IsNumeral 10 ds → (length ds == 0) ≡ false
some_digits ds h = grind (arith, nat_tests, h.0)

after_whole : (ds : List ℕ) → IsNumeral 10 ds → decimal_after ds [] ≡ read_after false ds []
unfolding decimal_after read_after
after_whole ds h = rw (some_digits ds h) refl

scan_all : (ds : List ℕ) → IsNumeral 10 ds → prefix_len is_ascii_digit ds ≡ length ds
scan_all ds h = rw (append-nil ds) at (scan ds [] (own.from ds h.1) refl)

point_scanned : (whole ds : List ℕ) → IsNumeral 10 ds → point_after whole ds ≡ scaled_after whole ds []
unfolding point_after
point_scanned whole ds h = rw (scan_all ds h, some_digits ds h, take_all (length ds) ds (omega arith), drop-length ds) refl

after_point : (whole ds : List ℕ) → IsNumeral 10 ds → decimal_after whole (46 ∷ ds) ≡ read_after false whole (46 ∷ ds)
unfolding decimal_after read_after scaled_after
after_point whole ds h = point_scanned whole ds h ∙ rw (is_numeral-true ds h) refl

padded_numeral : (k n : ℕ) → IsNumeral 10 (padded (suc k) n)
padded_numeral k n = (rw (length-padded (suc k) n) (omega arith), digits_padded (suc k) n)

read_back_text : (n d : ℕ) (p : Option ℕ) → ((j : ℕ) → p ≡ Some j → 10 ^ j % d ≡ 0) → p ≢ None → 0 < d → n ≤ max_size → gcd n d ≡ 1 → read_decimal (size_text p n d) ≡ number_at (pos n) d
unfolding size_text
read_back_text n d None h some dp nm one = absurd (some refl)
read_back_text n d (Some zero) h some dp nm one =
    let whole : d ≡ 1 = divides_one d dp (h 0 refl) in
    ap read_decimal (sym (append-nil (decimal n))) ∙ read_scanned (decimal n) [] (numeral n nm).1 refl ∙ after_whole (decimal n) (numeral n nm) ∙ read_whole_text false n nm ∙ number_of-lowest false n 1 (subst (λ k. gcd n k ≡ 1) whole one) ∙ ap (λ k. number_at (pos n) k) (sym whole)
read_back_text n d (Some (suc k)) h some dp nm one =
    let digits = padded (suc k) (n % d * (10 ^ suc k / d)) in
    read_scanned (decimal (n / d)) (46 ∷ digits) (numeral (n / d) (div_small n d nm)).1 refl ∙ after_point (decimal (n / d)) digits (padded_numeral k _) ∙ read_places_text false n d k dp nm one (h (suc k) refl)

pub decimals_read_back : DecimalsReadBack
unfolding decimal_text
decimals_read_back x (k, e) up =
    let some : places 126 x.den ≢ None = λ none. all_none x.den none (decimal_few k x.den x.is_number.above_zero x.is_number.den_fits e) in
    let whole : pos (unsigned_abs x.num) ≡ x.num = subst (λ b. with_minus b (unsigned_abs x.num) ≡ x.num) up (with_minus-abs x.num) in
    rw up (read_back_text (unsigned_abs x.num) x.den (places 126 x.den) (all_divide x.den) some x.is_number.above_zero x.is_number.num_fits x.is_number.lowest) ∙ number_at-some _ x.den x (sym whole) refl
