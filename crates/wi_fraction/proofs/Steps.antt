-- The steps of the operations: what each helper gives, and how they join.
use Rattle.wi_fraction.proofs.Vocabulary.{◌≡◌, ℕ, suc, ◌*◌, ◌/◌, ◌<◌, ◌≤◌, ℤ, pos, negsuc, ◌+ℤ◌, ◌*ℤ◌, neg_ℤ, unsigned_abs, Bool, false, Option, Some, None, refl, zero, ◌-ℤ◌, int_lt, nat_lt, w128, cast_signed as to_z, cast_unsigned as of_z, arith, ap, sym, ◌∙◌, ints, nat_tests, mul-pos, one-mul, div_self, div-le_self, dvd_refl, gcd, Number, number_of, max_size, with_minus, number_at, bounded, int_bounded, sum_by_steps, sum_of, gcd_comm, true, option_and_then, if◌then◌else◌, ◌&&◌, nat_le, gcd_from_IsGcd, number_at-some}
use Rattle.wi_fraction.proofs.Divisors.{gcd_pos, div_gcd_pos, coprime_cross, cross_numerator, cross_denominator}
use Rattle.wi_fraction.proofs.Numbers.{number_of-scaled, number_of-whole}

pub bounded-some : (n m : ℕ) → Some m ≡ bounded n → (m ≡ n) × (n ≤ max_size)
bounded-some n m e = (grind (arith, nat_tests), grind (arith, nat_tests))

pub multiple_pos : (b d g m : ℕ) → g ≡ gcd b d → 0 < b → 0 < d → Some m ≡ bounded (b / g * d) → 0 < m
multiple_pos b d g m i p q e =
    let w = bounded-some (b / g * d) m e in
    let first : 0 < b / g = rw (i, gcd_comm b d) (div_gcd_pos d b p) in
    rw w.0 (mul-pos first q)

pub neg_bits : (n : ℤ) → unsigned_abs n ≤ max_size → to_z w128 (of_z w128 (pos 0 -ℤ to_z w128 (of_z w128 n))) ≡ neg_ℤ n
neg_bits (pos zero) h = omega (arith, ints)
neg_bits (pos (suc n)) h = omega (arith, ints)
neg_bits (negsuc n) h = omega (arith, ints)

-- one test more
step : {A : Type 0} (p more : Bool) (a : A) (next : A → Option Number) (o : Option Number) → next a ≡ (if more then o else None) → option_and_then next (if p then Some a else None) ≡ (if p && more then o else None)
step true more a next o e = e
step false more a next o e = refl

abbrev small : ℤ → Bool
small z = nat_le (unsigned_abs z) max_size

-- the steps are the tests, one after another
pub sum_steps : (x y : Number) → sum_by_steps x y ≡ sum_of x y
unfolding sum_of sum_by_steps
sum_steps x y =
    let m : ℕ = x.den / gcd x.den y.den * y.den in
    let f : ℤ = x.num *ℤ pos (m / x.den) in
    let s : ℤ = y.num *ℤ pos (m / y.den) in
    let t : ℤ = f +ℤ s in
    let o : Option Number = number_of t m in
    step (nat_le m max_size) (small f && (small s && (small t && true))) m
    (λ (multiple : ℕ). option_and_then (λ (first : ℤ). option_and_then (λ (second : ℤ). option_and_then (λ (total : ℤ). number_of total multiple) (int_bounded (first +ℤ second))) (int_bounded (y.num *ℤ pos (multiple / y.den)))) (int_bounded (x.num *ℤ pos (multiple / x.den))))
    o
    (step (small f) (small s && (small t && true)) f
    (λ (first : ℤ). option_and_then (λ (second : ℤ). option_and_then (λ (total : ℤ). number_of total m) (int_bounded (first +ℤ second))) (int_bounded s))
    o
    (step (small s) (small t && true) s
    (λ (second : ℤ). option_and_then (λ (total : ℤ). number_of total m) (int_bounded (f +ℤ second)))
    o
    (step (small t) true t (λ (total : ℤ). number_of total m) o refl)))

pub sum_from_steps : (x y : Number) (multiple : ℕ) (first second total : ℤ) (r : Option Number) → Some multiple ≡ bounded (x.den / gcd x.den y.den * y.den) → Some first ≡ int_bounded (x.num *ℤ pos (multiple / x.den)) → Some second ≡ int_bounded (y.num *ℤ pos (multiple / y.den)) → Some total ≡ int_bounded (first +ℤ second) → r ≡ number_of total multiple → r ≡ sum_of x y
unfolding sum_by_steps
sum_from_steps x y multiple first second total r e1 e2 e3 e4 e5 =
    let stepped : r ≡ sum_by_steps x y = rw (← e1, ← e2, ← e3, ← e4) e5 in
    stepped ∙ sum_steps x y

-- no sum, where a step gives none
pub sum_no_multiple : (x y : Number) → None ≡ bounded (x.den / gcd x.den y.den * y.den) → None ≡ sum_of x y
unfolding sum_by_steps
sum_no_multiple x y e =
    let stepped : None ≡ sum_by_steps x y = rw (← e) refl in
    stepped ∙ sum_steps x y

pub sum_no_first : (x y : Number) (multiple : ℕ) → Some multiple ≡ bounded (x.den / gcd x.den y.den * y.den) → None ≡ int_bounded (x.num *ℤ pos (multiple / x.den)) → None ≡ sum_of x y
unfolding sum_by_steps
sum_no_first x y multiple e1 e2 =
    let stepped : None ≡ sum_by_steps x y = rw (← e1, ← e2) refl in
    stepped ∙ sum_steps x y

pub sum_no_second : (x y : Number) (multiple : ℕ) (first : ℤ) → Some multiple ≡ bounded (x.den / gcd x.den y.den * y.den)
    → Some first ≡ int_bounded (x.num *ℤ pos (multiple / x.den))
    → None ≡ int_bounded (y.num *ℤ pos (multiple / y.den)) → None ≡ sum_of x y
unfolding sum_by_steps
sum_no_second x y multiple first e1 e2 e3 =
    let stepped : None ≡ sum_by_steps x y = rw (← e1, ← e2, ← e3) refl in
    stepped ∙ sum_steps x y

pub sum_no_total : (x y : Number) (multiple : ℕ) (first second : ℤ) → Some multiple ≡ bounded (x.den / gcd x.den y.den * y.den)
    → Some first ≡ int_bounded (x.num *ℤ pos (multiple / x.den))
    → Some second ≡ int_bounded (y.num *ℤ pos (multiple / y.den)) → None ≡ int_bounded (first +ℤ second) → None ≡ sum_of x y
unfolding sum_by_steps
sum_no_total x y multiple first second e1 e2 e3 e4 =
    let stepped : None ≡ sum_by_steps x y = rw (← e1, ← e2, ← e3, ← e4) refl in
    stepped ∙ sum_steps x y

-- a part of a number within the limit is within it
pub part_fits : (n m b q : ℕ) → Some m ≡ bounded n → q ≡ m / b → q ≤ max_size
part_fits n m b q e f = let w = bounded-some n m e in omega (arith, f, div-le_self m b, w.0, w.1)

pub with_minus-abs : (z : ℤ) → with_minus (int_lt z (pos 0)) (unsigned_abs z) ≡ z
with_minus-abs (pos n) = let e : nat_lt n 0 ≡ false = grind (arith, nat_tests) in ap (λ b. with_minus b n) e
with_minus-abs (negsuc n) = refl

-- a product is reduced before it is multiplied out
pub cross_product : (s : Bool) (a b c d : ℕ) → 0 < b → 0 < d → gcd a b ≡ 1 → gcd c d ≡ 1 → number_at (with_minus s (a / gcd a d * (c / gcd c b))) (b / gcd c b * (d / gcd a d)) ≡ number_of (with_minus s (a * c)) (b * d)
cross_product s a b c d bp dp p q =
    let m : 0 < gcd a d * gcd c b = mul-pos (gcd_pos a d dp) (gcd_pos c b bp) in
    rw (cross_numerator a b c d, cross_denominator a b c d) (sym (number_of-scaled s _ _ _ m (coprime_cross a b c d bp dp p q)))

pub bounded-none : (n : ℕ) → None ≡ bounded n → max_size < n
bounded-none n e = grind (arith, nat_tests)

-- ---- like denominators

bounded-itself : (x : Number) → Some x.den ≡ bounded (x.den / gcd x.den x.den * x.den)
bounded-itself x =
    let same : x.den ≡ gcd x.den x.den = gcd_from_IsGcd x.den x.den x.den (dvd_refl x.den, dvd_refl x.den, λ d p q. p) in
    let e : x.den / gcd x.den x.den * x.den ≡ x.den = rw (← same, div_self x.is_number.above_zero) (one-mul x.den) in
    let fits = x.is_number.den_fits in
    rw e (grind (arith, nat_tests, fits))

pub mul-one-int : (z : ℤ) → z *ℤ pos 1 ≡ z
mul-one-int (pos n) = omega (arith, ints)
mul-one-int (negsuc n) = omega (arith, ints)

scaled-itself : (x : Number) (d : ℕ) → 0 < d → Some x.num ≡ int_bounded (x.num *ℤ pos (d / d))
scaled-itself x d some =
    let fits = x.is_number.num_fits in
    rw (div_self some, mul-one-int x.num) (grind (arith, nat_tests, fits))

-- numbers with one denominator are added over it
pub like_sum_some : (x y : Number) (total : ℤ) (r : Option Number) → x.den ≡ y.den → Some total ≡ int_bounded (x.num +ℤ y.num) → r ≡ number_of total x.den → r ≡ sum_of x y
like_sum_some x y total r same e f =
    sum_from_steps x y x.den x.num y.num total r
    (rw (← same) (bounded-itself x))
    (scaled-itself x x.den x.is_number.above_zero)
    (rw (← same) (scaled-itself y x.den x.is_number.above_zero))
    e f

pub like_sum_none : (x y : Number) → x.den ≡ y.den → None ≡ int_bounded (x.num +ℤ y.num) → None ≡ sum_of x y
unfolding sum_by_steps
like_sum_none x y same e =
    let e1 : Some x.den ≡ bounded (x.den / gcd x.den y.den * y.den) = rw (← same) (bounded-itself x) in
    let e2 = scaled-itself x x.den x.is_number.above_zero in
    let e3 : Some y.num ≡ int_bounded (y.num *ℤ pos (x.den / y.den)) = rw (← same) (scaled-itself y x.den x.is_number.above_zero) in
    let stepped : None ≡ sum_by_steps x y = rw (← e1, ← e2, ← e3, ← e) refl in
    stepped ∙ sum_steps x y

-- a whole number is its own lowest terms
pub whole_number_of : (z : ℤ) (x : Number) → x.num ≡ z → x.den ≡ 1 → Some x ≡ number_of z 1
whole_number_of z x e f =
    sym (number_at-some z 1 x e f) ∙ ap (λ k. number_at k 1) (sym (with_minus-abs z)) ∙ number_of-whole (int_lt z (pos 0)) (unsigned_abs z) ∙ ap (λ k. number_of k 1) (with_minus-abs z)
