-- Fractions whose denominator is too large, and the tails of a decimal.
use Rattle.wi_fraction.proofs.Vocabulary.{◌≡◌, ◌≢◌, ℕ, zero, suc, ◌+◌, ◌*◌, ◌/◌, ◌^◌, ◌<◌, ◌≤◌, pos, unsigned_abs, Bool, false, List, [], ◌∷◌, ◌++◌, length, drop, Some, None, refl, digit_value, ◌∣◌, digits_value, digits_value_after, AllDigits, ap, ◌∙◌, sym, inl, inr, arith, cases_lt, digits_value-lt, le-div, le_of_dvd, pow-suc, pow-zero, one-le-pow, div-mul_cancel, mul-le-mul_left, lt_of_mul-lt-mul_right, mul-add-mod_self_right, mul-div-mul_right, mul_right_comm, mul-one, dvd-mul_right_of_dvd, gcd, is_gcd, dvd_gcd_mul, Number, number_at, number_of, with_minus, max_size, number_at-some, number_at-is, decimal_value}
use Rattle.wi_fraction.proofs.Divisors.{gcd_pos, gcd_step, gcd_scaled, coprime_divided, div_gcd_pos}
use Rattle.wi_fraction.proofs.Numbers.{abs-with_minus, number_of-with_minus, number_at-too_large}

-- the denominator of n/d in lowest terms is too large
abbrev pub IsTooFine : ℕ → ℕ → Type 0
IsTooFine n d = max_size < d / gcd n d

pub none_from_fine : (s : Bool) (n d : ℕ) → IsTooFine n d → None ≡ number_of (with_minus s n) d
none_from_fine s n d h = number_at-too_large s (n / gcd n d) (d / gcd n d) (inr h) ∙ number_of-with_minus s n d

number_at-fits : (s : Bool) (n d : ℕ) → 0 < d → gcd n d ≡ 1 → n ≤ max_size → d ≤ max_size → number_at (with_minus s n) d ≢ None
number_at-fits s n d dp one nm dm e =
    let x : Number = record { num = with_minus s n; den = d; is_number = record { above_zero = dp; lowest = rw (abs-with_minus s n) one; num_fits = rw (abs-with_minus s n) nm; den_fits = dm } } in
    let some : number_at (with_minus s n) d ≡ Some x = number_at-some (with_minus s n) d x refl refl in
    cc

-- a fraction below one that is no number is too fine
pub fine_from_none : (s : Bool) (n d : ℕ) → n < d → None ≡ number_of (with_minus s n) d → IsTooFine n d
fine_from_none s n d below none =
    let dp : 0 < d = omega arith in
    let num : n / gcd n d * gcd n d ≡ n = div-mul_cancel (gcd n d) (is_gcd n d).0 in
    let den : d / gcd n d * gcd n d ≡ d = div-mul_cancel (gcd n d) (is_gcd n d).1 in
    let less : n / gcd n d < d / gcd n d = lt_of_mul-lt-mul_right (gcd n d) (rw (num, den) below) in
    elim (cases_lt max_size (d / gcd n d)) [
      | inl h ↦ h
      | inr h ↦ absurd (number_at-fits s (n / gcd n d) (d / gcd n d) (div_gcd_pos n d dp) (coprime_divided n d dp) (omega arith) h (number_of-with_minus s n d ∙ sym none))
    ]

-- a whole number more leaves the denominator as it is
pub gcd_shifted : (c m v : ℕ) → gcd (c * m + v) m ≡ gcd v m
gcd_shifted c m v = sym (gcd_step (c * m + v) m) ∙ ap (λ r. gcd m r) (mul-add-mod_self_right c m v) ∙ gcd_step v m

fine_shifted : (c m v : ℕ) → IsTooFine v m → IsTooFine (c * m + v) m
fine_shifted c m v h = rw (gcd_shifted c m v) h

-- a tenth has no smaller denominator
pub fine_tenth : (n m : ℕ) → 0 < m → IsTooFine n m → IsTooFine n (m * 10)
fine_tenth n m mp h =
    let g = gcd n m in
    let k = gcd n (m * 10) in
    let kp : 0 < k = gcd_pos n (m * 10) (omega arith) in
    let i = is_gcd n (m * 10) in
    let over : k ∣ n * 10 = dvd-mul_right_of_dvd k i.0 10 in
    let divides : k ∣ g * 10 = dvd_gcd_mul k n m 10 over i.1 in
    let gp : 0 < g = gcd_pos n m mp in
    let small : k ≤ g * 10 = le_of_dvd (omega arith) divides in
    let whole : m / g * g ≡ m = div-mul_cancel g (is_gcd n m).1 in
    let bound : m / g * k ≤ m * 10 = omega (arith, mul-le-mul_left (m / g) small, whole) in
    let larger : m / g ≤ m * 10 / k = le-div (m / g) (m * 10) k kp bound in
    omega (arith, h, larger)

-- ---- digits

place_step : (n v p a b r : ℕ) → a ≡ (n * 10 + v) * p + r → b ≡ (0 * 10 + v) * p + r → a ≡ n * (p * 10) + b
place_step n v p a b r e f = omega (arith, e, f)

value_after : (n : ℕ) (ds : List ℕ) → digits_value_after 10 n ds ≡ n * 10 ^ length ds + digits_value 10 ds
value_after n [] = rw (pow-zero 10) (omega arith)
value_after n (c ∷ cs) = rw (pow-suc 10 (length cs)) (place_step n (digit_value c) (10 ^ length cs) _ _ (digits_value 10 cs) (value_after (n * 10 + digit_value c) cs) (value_after (0 * 10 + digit_value c) cs))

nothing_before : (v : ℕ) → 0 * 10 + v ≡ v
nothing_before v = omega arith

pub value_cons : (c : ℕ) (ds : List ℕ) → digits_value 10 (c ∷ ds) ≡ digit_value c * 10 ^ length ds + digits_value 10 ds
value_cons c ds = value_after (0 * 10 + digit_value c) ds ∙ ap (λ v. v * 10 ^ length ds + digits_value 10 ds) (nothing_before (digit_value c))

after_append : (n : ℕ) (ds es : List ℕ) → digits_value_after 10 n (ds ++ es) ≡ digits_value_after 10 (digits_value_after 10 n ds) es
after_append n [] es = refl
after_append n (c ∷ cs) es = after_append (n * 10 + digit_value c) cs es

value_append : (ds es : List ℕ) → digits_value 10 (ds ++ es) ≡ digits_value 10 ds * 10 ^ length es + digits_value 10 es
value_append ds es = after_append 0 ds es ∙ value_after (digits_value 10 ds) es

-- ---- tails

-- the decimal with no whole part and those digits after the point is too fine
abbrev pub IsFineTail : List ℕ → Type 0
IsFineTail ds = IsTooFine (digits_value 10 ds) (10 ^ length ds)

pub ten_pow_pos : (k : ℕ) → 0 < 10 ^ k
ten_pow_pos k = one-le-pow k 10 (omega arith)

fine_cons : (c : ℕ) (ds : List ℕ) → IsFineTail ds → IsFineTail (c ∷ ds)
fine_cons c ds h = rw (value_cons c ds, pow-suc 10 (length ds)) (fine_tenth _ _ (ten_pow_pos (length ds)) (fine_shifted (digit_value c) (10 ^ length ds) (digits_value 10 ds) h))

-- where a tail is too fine, so is the whole
pub fine_drop : (i : ℕ) (ds : List ℕ) → IsFineTail (drop i ds) → IsFineTail ds
fine_drop zero ds h = h
fine_drop (suc i) [] h = h
fine_drop (suc i) (c ∷ ds) h = fine_cons c ds (fine_drop i ds h)

pub none_from_tail : (s : Bool) (whole ds : List ℕ) → IsFineTail ds → None ≡ decimal_value s whole ds
none_from_tail s whole ds h = rw (value_append whole ds) (none_from_fine s _ _ (fine_shifted (digits_value 10 whole) (10 ^ length ds) (digits_value 10 ds) h))

pub tail_from_none : (ds : List ℕ) → AllDigits 10 ds → None ≡ decimal_value false [] ds → IsFineTail ds
tail_from_none ds all e = fine_from_none false (digits_value 10 ds) (10 ^ length ds) (digits_value-lt 10 ds all) e

-- ---- the step from one tail to the next

pub number_of-multiplied : (s : Bool) (n d m : ℕ) → 0 < m → number_of (with_minus s (n * m)) (d * m) ≡ number_of (with_minus s n) d
number_of-multiplied s n d m mp =
    sym (number_of-with_minus s (n * m) (d * m)) ∙ rw (gcd_scaled n d m, mul-div-mul_right n (gcd n d) mp, mul-div-mul_right d (gcd n d) mp) (number_of-with_minus s n d)

parts_of : (s : Bool) (n d : ℕ) (x : Number) → Some x ≡ number_of (with_minus s n) d → (unsigned_abs x.num * gcd n d ≡ n) × (x.den * gcd n d ≡ d)
parts_of s n d x e =
    let is = number_at-is _ _ x (number_of-with_minus s n d ∙ sym e) in
    (rw (is.0, abs-with_minus s (n / gcd n d)) (div-mul_cancel (gcd n d) (is_gcd n d).0), rw is.1 (div-mul_cancel (gcd n d) (is_gcd n d).1))

-- of a tail below one the numerator is below the denominator
pub tail_below_one : (ds : List ℕ) (x : Number) → AllDigits 10 ds → Some x ≡ decimal_value false [] ds → unsigned_abs x.num < x.den
tail_below_one ds x all e =
    let p = parts_of false (digits_value 10 ds) (10 ^ length ds) x e in
    lt_of_mul-lt-mul_right (gcd (digits_value 10 ds) (10 ^ length ds)) (rw (p.0, p.1) (digits_value-lt 10 ds all))

pub step_value : (s t : Bool) (c k n d : ℕ) (x : Number) → 0 < d → Some x ≡ number_of (with_minus s n) d → number_of (with_minus t (c * x.den + unsigned_abs x.num)) (x.den * k) ≡ number_of (with_minus t (c * d + n)) (d * k)
step_value s t c k n d x dp e =
    let p = parts_of s n d x e in
    let g = gcd n d in
    let top : c * d + n ≡ (c * x.den + unsigned_abs x.num) * g = omega (arith, p.0, ap (λ v. c * v) p.1) in
    let low : d * k ≡ x.den * k * g = ap (λ v. v * k) (sym p.1) ∙ mul_right_comm x.den g k in
    sym (rw (top, low) (number_of-multiplied t (c * x.den + unsigned_abs x.num) (x.den * k) g (gcd_pos n d dp)))

-- a digit before a tail
pub tail_more : (c : ℕ) (ds : List ℕ) (x : Number) → Some x ≡ decimal_value false [] ds → number_of (pos (digit_value c * x.den + unsigned_abs x.num)) (x.den * 10) ≡ decimal_value false [] (c ∷ ds)
tail_more c ds x e = step_value false false (digit_value c) 10 (digits_value 10 ds) (10 ^ length ds) x (ten_pow_pos (length ds)) e ∙ rw (value_cons c ds, pow-suc 10 (length ds)) refl

-- a whole part before a tail
pub tail_whole : (s : Bool) (whole ds : List ℕ) (x : Number) → Some x ≡ decimal_value false [] ds → number_of (with_minus s (digits_value 10 whole * x.den + unsigned_abs x.num)) x.den ≡ decimal_value s whole ds
tail_whole s whole ds x e =
    let step = step_value false s (digits_value 10 whole) 1 (digits_value 10 ds) (10 ^ length ds) x (ten_pow_pos (length ds)) e in
    rw (value_append whole ds) (rw (mul-one x.den, mul-one (10 ^ length ds)) at step)
