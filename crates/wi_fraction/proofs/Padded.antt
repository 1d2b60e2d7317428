-- Digits with zeros in front.
use Rattle.wi_fraction.proofs.Vocabulary.{◌≡◌, ℕ, zero, suc, ◌+◌, ◌*◌, ◌/◌, ◌%◌, ◌^◌, ◌<◌, ◌≤◌, List, [], ◌∷◌, ◌++◌, map, reverse, length, refl, range_with_len, decimal, digit_value, digits_value, AllDigits, ◌∙◌, sym, ap, arith, nat_tests, decimal_digit, decimal_step_wide, digits_value_push, digits_push, pow-suc, pow-succ', pow-zero, mul_assoc, one-le-pow, div-one, div-div-eq-div-mul, reverse_onto, append-nil, length-append, map-append, padded}
use mathlib.Core.List.{append_assoc}

digit_of : (d : ℕ) → d < 10 → digit_value (48 + d) ≡ d
digit_of d h = grind (arith, nat_tests)

-- ---- a digit more

abbrev digit_at : ℕ → ℕ → ℕ
digit_at n i = 48 + n / 10 ^ i % 10

-- a digit above the units is one of the tenth part, a place lower
digit_higher : (n i : ℕ) → 48 + n / 10 ^ (i + 1) % 10 ≡ 48 + n / 10 / 10 ^ i % 10
digit_higher n i =
    let next : i + 1 ≡ suc i = omega arith in
    ap (λ j. 48 + n / 10 ^ j % 10) next ∙ ap (λ p. 48 + n / p % 10) (pow-succ' 10 i) ∙ ap (λ v. 48 + v % 10) (sym (div-div-eq-div-mul n 10 (10 ^ i)))

units : (n : ℕ) → 48 + n / 10 ^ 0 % 10 ≡ 48 + n % 10
units n = ap (λ p. 48 + n / p % 10) (pow-zero 10) ∙ ap (λ v. 48 + v % 10) (div-one n)

map_reversed : (f : ℕ → ℕ) (x : ℕ) (xs : List ℕ) → map f (reverse (x ∷ xs)) ≡ map f (reverse xs) ++ f x ∷ []
map_reversed f x xs = ap (map f) (reverse_onto xs x []) ∙ map-append f (reverse xs) (x ∷ [])

digits_higher : (k s n : ℕ) → map (digit_at n) (reverse (range_with_len (s + 1) k)) ≡ map (digit_at (n / 10)) (reverse (range_with_len s k))
digits_higher zero s n = refl
digits_higher (suc k) s n =
    let higher = map (digit_at (n / 10)) (reverse (range_with_len (s + 1) k)) in
    map_reversed (digit_at n) (s + 1) (range_with_len (s + 1 + 1) k) ∙ ap (λ v. v ++ digit_at n (s + 1) ∷ []) (digits_higher k (s + 1) n)
    ∙ ap (λ c. higher ++ c ∷ []) (digit_higher n s) ∙ sym (map_reversed (digit_at (n / 10)) s (range_with_len (s + 1) k))

pub padded_suc : (k n : ℕ) → padded (suc k) n ≡ padded k (n / 10) ++ (48 + n % 10) ∷ []
unfolding padded
padded_suc k n =
    map_reversed (digit_at n) 0 (range_with_len (0 + 1) k) ∙ ap (λ v. v ++ digit_at n 0 ∷ []) (digits_higher k 0 n) ∙ ap (λ c. map (digit_at (n / 10)) (reverse (range_with_len 0 k)) ++ c ∷ []) (units n)

pub length-padded : (k n : ℕ) → length (padded k n) ≡ k
unfolding padded
length-padded zero n = refl
length-padded (suc k) n = rw (padded_suc k n, length-append (padded k (n / 10)) ((48 + n % 10) ∷ []), length-padded k (n / 10)) (omega arith)

pub digits_padded : (k n : ℕ) → AllDigits 10 (padded k n)
unfolding padded
digits_padded zero n = tt
digits_padded (suc k) n = rw (padded_suc k n) (digits_push 10 (padded k (n / 10)) (48 + n % 10) (digits_padded k (n / 10)) (rw (digit_of (n % 10) (omega arith)) (omega arith)))

place : (v p q r n : ℕ) → n ≡ q * 10 + r → (v * p + q) * 10 + r ≡ v * (p * 10) + n
place v p q r n e = omega (arith, e, mul_assoc v p 10)

pub value_padded : (k n : ℕ) (ds : List ℕ) → n < 10 ^ k → digits_value 10 (ds ++ padded k n) ≡ digits_value 10 ds * 10 ^ k + n
unfolding padded
value_padded zero n ds h =
    let none : n ≡ 0 = omega arith in
    rw (none, append-nil ds) (omega (arith, pow-zero 10))
value_padded (suc k) n ds h =
    let less : n / 10 < 10 ^ k = omega (arith, pow-suc 10 k) in
    let pushed : digits_value 10 (ds ++ (padded k (n / 10) ++ ((48 + n % 10) ∷ []))) ≡ digits_value 10 (ds ++ padded k (n / 10)) * 10 + digit_value (48 + n % 10) = rw (sym (append_assoc ds (padded k (n / 10)) ((48 + n % 10) ∷ []))) (digits_value_push 10 (ds ++ padded k (n / 10)) (48 + n % 10)) in
    ap (λ v. digits_value 10 (ds ++ v)) (padded_suc k n) ∙ pushed ∙ rw (digit_of (n % 10) (omega arith), value_padded k (n / 10) ds less, pow-suc 10 k) (place (digits_value 10 ds) (10 ^ k) (n / 10) (n % 10) n (omega arith))

-- the digits with zeros in front are those of a whole number, after its first
pub decimal_after_one : (k r : ℕ) → r < 10 ^ k → 10 ^ k + r < 10 ^ 64 → decimal (10 ^ k + r) ≡ 49 ∷ padded k r
unfolding padded
decimal_after_one zero r h f =
    let one : 10 ^ 0 + r ≡ 1 = omega (arith, pow-zero 10) in
    rw one (decimal_digit 1 (omega arith))
decimal_after_one (suc k) r h f =
    let some : 1 ≤ 10 ^ k = one-le-pow k 10 (omega arith) in
    let front : (10 ^ suc k + r) / 10 ≡ 10 ^ k + r / 10 = omega (arith, pow-suc 10 k) in
    let last : (10 ^ suc k + r) % 10 ≡ r % 10 = omega (arith, pow-suc 10 k) in
    let step : decimal (10 ^ suc k + r) ≡ decimal ((10 ^ suc k + r) / 10) ++ ((48 + (10 ^ suc k + r) % 10) ∷ []) = decimal_step_wide (10 ^ suc k + r) (omega (arith, pow-suc 10 k, some)) f in
    step ∙ rw (front, last, padded_suc k r, decimal_after_one k (r / 10) (omega (arith, pow-suc 10 k)) (omega (arith, pow-suc 10 k))) refl
