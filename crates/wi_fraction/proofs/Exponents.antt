-- Decimals times powers of ten, and divided by them.
use Rattle.wi_fraction.proofs.Vocabulary.{◌≡◌, ℕ, zero, suc, ◌+◌, ◌-◌, ◌*◌, ◌/◌, ◌^◌, ◌<◌, ◌≤◌, pos, unsigned_abs, false, List, [], ◌++◌, length, take, drop, Option, Some, None, refl, digits_value, AllDigits, sym, ap, ◌∙◌, inl, inr, arith, cases_lt, digits_value-lt, length-append, length-drop, le-div, pow-add, le_of_dvd, pow-suc, pow-zero, zero-mul, one-mul, mul-one, mul_assoc, mul-pos, mul-le-mul_left, mul-le-mul_right, pow-le-pow_right, le_trans, gcd-one, gcd, is_gcd, gcd_comm, Number, number_at, number_of, max_size, bounded, decimal_value, raised, lowered}
use Rattle.wi_fraction.proofs.Divisors.{gcd_pos}
use Rattle.wi_fraction.proofs.Fineness.{IsTooFine, none_from_fine, fine_tenth, ten_pow_pos, step_value, number_of-multiplied, tail_from_none}
use Rattle.wi_fraction.proofs.Numbers.{number_of-lowest, number_at-too_large}
use Rattle.wi_fraction.proofs.Pieces.{cut_after, cut_before}
use Rattle.wi_fraction.proofs.Reading.{bounded-too_large}
use Rattle.wi_fraction.proofs.Steps.{bounded-some, bounded-none}

-- ---- powers of ten

pub ten_pow_few : (k : ℕ) → k ≤ 38 → 10 ^ k ≤ 10 ^ 38
ten_pow_few k h = pow-le-pow_right (omega arith) h

ten_pow_large : (k : ℕ) → 38 < k → max_size < 10 ^ k
ten_pow_large k h =
    let next : 39 ≤ k = omega (arith, h) in
    let more : 10 ^ 39 ≤ 10 ^ k = pow-le-pow_right (omega arith) next in
    omega (arith, more)

-- a power in two parts
pub in_parts : (k j : ℕ) → j ≤ k → 10 ^ k ≡ 10 ^ (k - j) * 10 ^ j
in_parts k j h = let whole : k ≡ k - j + j = omega (arith, h) in ap (λ e. 10 ^ e) whole ∙ pow-add 10 (k - j) j

pub one_lowest : (k : ℕ) → gcd 1 k ≡ 1
one_lowest k = gcd_comm 1 k ∙ gcd-one k

pub zero_of : (d : ℕ) → 0 < d → number_of (pos 0) d ≡ number_of (pos 0) 1
zero_of d h = rw (zero-mul d, one-mul d) at (number_of-multiplied false 0 1 d h)

at_least : (n k : ℕ) → 0 < n → k ≤ n * k
at_least n k h = let least : 1 * k ≤ n * k = mul-le-mul_right k h in omega (arith, least)

pub bounded-raised : (n k : ℕ) → 0 < n → 38 < k → None ≡ bounded (n * 10 ^ k)
bounded-raised n k some h = bounded-too_large (n * 10 ^ k) (omega (arith, ten_pow_large k h, at_least n (10 ^ k) some))

-- what is below one and divided by a large number is too fine
fine_small : (n m t : ℕ) → 0 < n → n ≤ m → max_size < t → IsTooFine n (m * t)
fine_small n m t some below large =
    let g = gcd n (m * t) in
    let gp : 0 < g = gcd_pos n (m * t) (mul-pos (omega (arith, some, below)) (omega (arith, large))) in
    let small : g ≤ m = le_trans (le_of_dvd some (is_gcd n (m * t)).0) below in
    let bound : t * g ≤ m * t = omega (arith, mul-le-mul_left t small) in
    let larger : t ≤ m * t / g = le-div t (m * t) g gp bound in
    omega (arith, larger, large)

pub none_lowered : (n d k : ℕ) → 0 < n → n < d → 38 < k → None ≡ number_of (pos n) (d * 10 ^ k)
none_lowered n d k some below h = none_from_fine false n (d * 10 ^ k) (fine_small n d (10 ^ k) some (omega (arith, below)) (ten_pow_large k h))

-- ---- times a power of ten

pub raised_by_cut : (whole parts : List ℕ) (k : ℕ) → k ≤ length parts → decimal_value false (whole ++ take k parts) (drop k parts) ≡ raised whole parts k
raised_by_cut whole parts k h =
    rw (cut_after whole parts k, length-drop k parts, in_parts (length parts) k h) (sym (number_of-multiplied false (digits_value 10 (whole ++ parts)) (10 ^ (length parts - k)) (10 ^ k) (ten_pow_pos k)))

raised_whole : (whole parts : List ℕ) (k : ℕ) → length parts ≤ k → number_at (pos (digits_value 10 (whole ++ parts) * 10 ^ (k - length parts))) 1 ≡ raised whole parts k
raised_whole whole parts k h =
    let v = digits_value 10 (whole ++ parts) in
    let t = 10 ^ (k - length parts) in
    let p = 10 ^ length parts in
    let size : v * 10 ^ k ≡ v * t * p = ap (λ e. v * e) (in_parts k (length parts) h) ∙ sym (mul_assoc v t p) in
    sym (number_of-lowest false (v * t) 1 (gcd-one (v * t))) ∙ sym (rw (one-mul p) at (number_of-multiplied false (v * t) 1 p (ten_pow_pos (length parts)))) ∙ ap (λ n. number_of (pos n) p) (sym size)

raised_too_large : (whole parts : List ℕ) (k : ℕ) → length parts ≤ k → max_size < digits_value 10 (whole ++ parts) * 10 ^ (k - length parts) → None ≡ raised whole parts k
raised_too_large whole parts k h large = number_at-too_large false _ 1 (inl large) ∙ raised_whole whole parts k h

pub raised_none_whole : (whole parts : List ℕ) (k : ℕ) → length parts ≤ k → None ≡ bounded (digits_value 10 (whole ++ parts)) → None ≡ raised whole parts k
raised_none_whole whole parts k h e =
    let v = digits_value 10 (whole ++ parts) in
    let large : max_size < v = bounded-none v e in
    let more : v * 1 ≤ v * 10 ^ (k - length parts) = mul-le-mul_left v (ten_pow_pos (k - length parts)) in
    raised_too_large whole parts k h (omega (arith, large, more))

pub raised_none : (whole parts : List ℕ) (k v : ℕ) → length parts ≤ k → Some v ≡ bounded (digits_value 10 (whole ++ parts)) → None ≡ bounded (v * 10 ^ (k - length parts)) → None ≡ raised whole parts k
raised_none whole parts k v h e f =
    let large : max_size < v * 10 ^ (k - length parts) = bounded-none (v * 10 ^ (k - length parts)) f in
    raised_too_large whole parts k h (rw (bounded-some (digits_value 10 (whole ++ parts)) v e).0 at large)

pub raised_some : (whole parts : List ℕ) (k v u : ℕ) (r : Option Number) → length parts ≤ k → Some v ≡ bounded (digits_value 10 (whole ++ parts)) → Some u ≡ bounded (v * 10 ^ (k - length parts)) → r ≡ number_at (pos u) 1 → r ≡ raised whole parts k
raised_some whole parts k v u r h e f g =
    let first : v ≡ digits_value 10 (whole ++ parts) = (bounded-some (digits_value 10 (whole ++ parts)) v e).0 in
    let second : u ≡ v * 10 ^ (k - length parts) = (bounded-some (v * 10 ^ (k - length parts)) u f).0 in
    g ∙ rw (second, first) (raised_whole whole parts k h)

raised_far : (whole parts : List ℕ) (k : ℕ) → 0 < digits_value 10 (whole ++ parts) → length parts + 38 < k → None ≡ raised whole parts k
raised_far whole parts k some h =
    let far : 38 < k - length parts = omega (arith, h) in
    raised_too_large whole parts k (omega (arith, h)) (omega (arith, ten_pow_large (k - length parts) far, at_least (digits_value 10 (whole ++ parts)) (10 ^ (k - length parts)) some))

-- ---- divided by a power of ten

pub lowered_by_cut : (whole parts : List ℕ) (k : ℕ) → k ≤ length whole → decimal_value false (take (length whole - k) whole) (drop (length whole - k) whole ++ parts) ≡ lowered whole parts k
lowered_by_cut whole parts k h =
    let left : length (drop (length whole - k) whole ++ parts) ≡ length parts + k = rw (length-append (drop (length whole - k) whole) parts, length-drop (length whole - k) whole) (omega (arith, h)) in
    rw (cut_before whole parts (length whole - k), left) refl

-- ten to all places is ten to the digits, times the rest
lowered_power : (whole parts : List ℕ) (k : ℕ) → length whole ≤ k → 10 ^ (length parts + k) ≡ 10 ^ length (whole ++ parts) * 10 ^ (k - length whole)
lowered_power whole parts k h =
    let sum : length parts + k ≡ length (whole ++ parts) + (k - length whole) = rw (length-append whole parts) (omega (arith, h)) in
    ap (λ e. 10 ^ e) sum ∙ pow-add 10 (length (whole ++ parts)) (k - length whole)

fine_divided : (n m k : ℕ) → 0 < m → IsTooFine n m → IsTooFine n (m * 10 ^ k)
fine_divided n m zero mp h = rw (pow-zero 10, mul-one m) h
fine_divided n m (suc k) mp h = rw (pow-suc 10 k, sym (mul_assoc m (10 ^ k) 10)) (fine_tenth n (m * 10 ^ k) (mul-pos mp (ten_pow_pos k)) (fine_divided n m k mp h))

pub lowered_none : (whole parts : List ℕ) (k : ℕ) → AllDigits 10 (whole ++ parts) → length whole ≤ k → None ≡ decimal_value false [] (whole ++ parts) → None ≡ lowered whole parts k
lowered_none whole parts k all h e =
    rw (lowered_power whole parts k h) (none_from_fine false _ _ (fine_divided _ _ (k - length whole) (ten_pow_pos (length (whole ++ parts))) (tail_from_none (whole ++ parts) all e)))

pub lowered_some : (whole parts : List ℕ) (k n d : ℕ) (x : Number) (r : Option Number) → length whole ≤ k → Some x ≡ decimal_value false [] (whole ++ parts) → n ≡ unsigned_abs x.num → d ≡ x.den → r ≡ number_of (pos n) (d * 10 ^ (k - length whole)) → r ≡ lowered whole parts k
lowered_some whole parts k n d x r h e f g s =
    let v = digits_value 10 (whole ++ parts) in
    let p = 10 ^ length (whole ++ parts) in
    let t = 10 ^ (k - length whole) in
    let step = step_value false false 0 t v p x (ten_pow_pos (length (whole ++ parts))) e in
    let first : 0 * x.den + unsigned_abs x.num ≡ unsigned_abs x.num = omega arith in
    let second : 0 * p + v ≡ v = omega arith in
    s ∙ rw (f, g, lowered_power whole parts k h) (rw (first, second) at step)

lowered_far : (whole parts : List ℕ) (k : ℕ) → AllDigits 10 (whole ++ parts) → 0 < digits_value 10 (whole ++ parts) → length whole + 38 < k → None ≡ lowered whole parts k
lowered_far whole parts k all some h =
    let below : digits_value 10 (whole ++ parts) < 10 ^ length (whole ++ parts) = digits_value-lt 10 (whole ++ parts) all in
    rw (lowered_power whole parts k (omega (arith, h))) (none_lowered _ _ (k - length whole) some below (omega (arith, h)))

-- ---- exponents that are too large

raised_zero : (whole parts : List ℕ) (k : ℕ) → digits_value 10 (whole ++ parts) ≡ 0 → raised whole parts k ≡ number_of (pos 0) 1
raised_zero whole parts k e = rw (e, zero-mul (10 ^ k)) (zero_of (10 ^ length parts) (ten_pow_pos (length parts)))

lowered_zero : (whole parts : List ℕ) (k : ℕ) → digits_value 10 (whole ++ parts) ≡ 0 → lowered whole parts k ≡ number_of (pos 0) 1
lowered_zero whole parts k e = rw e (zero_of (10 ^ (length parts + k)) (ten_pow_pos (length parts + k)))

raised_alike : (whole parts : List ℕ) (e k : ℕ) → length parts + 38 < e → length parts + 38 < k → raised whole parts e ≡ raised whole parts k
raised_alike whole parts e k h l =
    elim (cases_lt 0 (digits_value 10 (whole ++ parts))) [
      | inl some ↦ sym (raised_far whole parts e some h) ∙ raised_far whole parts k some l
      | inr none ↦ raised_zero whole parts e (omega (arith, none)) ∙ sym (raised_zero whole parts k (omega (arith, none)))
    ]

lowered_alike : (whole parts : List ℕ) (e k : ℕ) → AllDigits 10 (whole ++ parts) → length whole + 38 < e → length whole + 38 < k → lowered whole parts e ≡ lowered whole parts k
lowered_alike whole parts e k all h l =
    elim (cases_lt 0 (digits_value 10 (whole ++ parts))) [
      | inl some ↦ sym (lowered_far whole parts e all some h) ∙ lowered_far whole parts k all some l
      | inr none ↦ lowered_zero whole parts e (omega (arith, none)) ∙ sym (lowered_zero whole parts k (omega (arith, none)))
    ]

pub raised_capped : (whole parts : List ℕ) (e k : ℕ) → length parts < 2 ^ 64 → (k ≤ max_size → e ≡ k) → (max_size < k → max_size ≤ e) → raised whole parts e ≡ raised whole parts k
raised_capped whole parts e k short f g =
    elim (cases_lt max_size k) [
      | inl h ↦ let large = g h in raised_alike whole parts e k (omega (arith, short, large)) (omega (arith, short, h))
      | inr h ↦ ap (λ n. raised whole parts n) (f h)
    ]

pub lowered_capped : (whole parts : List ℕ) (e k : ℕ) → AllDigits 10 (whole ++ parts) → length whole < 2 ^ 64 → (k ≤ max_size → e ≡ k) → (max_size < k → max_size ≤ e) → lowered whole parts e ≡ lowered whole parts k
lowered_capped whole parts e k all short f g =
    elim (cases_lt max_size k) [
      | inl h ↦ let large = g h in lowered_alike whole parts e k all (omega (arith, short, large)) (omega (arith, short, h))
      | inr h ↦ ap (λ n. lowered whole parts n) (f h)
    ]
