-- Numbers made from a sign, a size and a denominator.
use Rattle.wi_fraction.proofs.Vocabulary.{◌≡◌, ◌⊎◌, ℕ, zero, suc, ◌*◌, ◌/◌, ◌<◌, pos, unsigned_abs, int_div, Bool, true, false, Some, None, refl, ap, ◌∙◌, sym, inl, inr, arith, zero-div, div-one, one-mul, mul-div_cancel, gcd-one, gcd, Number, IsNumber, number_at, number_of, with_minus, max_size, number_at-some, number_at-none}
use Rattle.wi_fraction.proofs.Divisors.{gcd_scaled}

pub abs-with_minus : (b : Bool) (n : ℕ) → unsigned_abs (with_minus b n) ≡ n
abs-with_minus true zero = refl
abs-with_minus true (suc n) = refl
abs-with_minus false n = refl

pub number_at-too_large : (b : Bool) (n d : ℕ) → (max_size < n) ⊎ (max_size < d) → None ≡ number_at (with_minus b n) d
number_at-too_large b n d (inl h) = sym (number_at-none _ _ (λ x. absurd (omega (arith, x.num_fits, abs-with_minus b n))))
number_at-too_large b n d (inr h) = sym (number_at-none _ _ (λ x. absurd (omega (arith, x.den_fits))))

pub div-with_minus : (b : Bool) (n g : ℕ) → int_div (with_minus b n) (pos g) ≡ with_minus b (n / g)
div-with_minus true zero g = rw zero-div refl
div-with_minus true (suc n) g = refl
div-with_minus false n g = refl

pub number_of-with_minus : (b : Bool) (n d : ℕ) → number_at (with_minus b (n / gcd n d)) (d / gcd n d) ≡ number_of (with_minus b n) d
unfolding number_of
number_of-with_minus b n d = rw (abs-with_minus, div-with_minus)

pub number_of-lowest : (s : Bool) (n d : ℕ) → gcd n d ≡ 1 → number_of (with_minus s n) d ≡ number_at (with_minus s n) d
number_of-lowest s n d one = sym (number_of-with_minus s n d) ∙ rw (one, div-one n, div-one d)

-- a whole number is in lowest terms
pub number_of-whole : (s : Bool) (n : ℕ) → number_at (with_minus s n) 1 ≡ number_of (with_minus s n) 1
number_of-whole s n = sym (number_of-lowest s n 1 (gcd-one n))

-- a fraction with the common factor m
pub number_of-scaled : (s : Bool) (n d m : ℕ) → 0 < m → gcd n d ≡ 1 → number_of (with_minus s (n * m)) (d * m) ≡ number_at (with_minus s n) d
number_of-scaled s n d m some one =
    let g : gcd (n * m) (d * m) ≡ m = gcd_scaled n d m ∙ ap (λ k. k * m) one ∙ one-mul m in
    sym (number_of-with_minus s (n * m) (d * m)) ∙ (rw (g, mul-div_cancel n some, mul-div_cancel d some))

pub zero_is : IsNumber (pos 0) 1
zero_is = record { above_zero = omega arith; lowest = gcd-one 0; num_fits = omega arith; den_fits = omega arith }

-- zero is 0/1
pub zero_number : (x : Number) → x.num ≡ pos 0 → x.den ≡ 1 → Some x ≡ number_of (pos 0) 1
zero_number x e f = sym (number_of-lowest false 0 1 (gcd-one 0) ∙ number_at-some (pos 0) 1 x e f)
