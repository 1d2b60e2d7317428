-- Powers of lowest terms, and powers that are too large.
use Rattle.wi_fraction.proofs.Vocabulary.{◌≡◌, ℕ, zero, suc, ◌%◌, ◌^◌, ◌<◌, ◌≤◌, ℤ, pos, negsuc, unsigned_abs, Bool, true, false, ◌&&◌, nat_le, nat_lt, int_lt, ◌≢◌, ◌==◌, Option, Some, None, refl, int_pow, arith, ap, sym, ◌∙◌, nat_tests, pow-suc, pow-zero, one-le-pow, pow-le-pow_left, pow-le-pow_right, le_trans, int_eq, gcd-one, gcd, Number, number_of, number_at, max_size, with_minus, fraction_of, bounded, power_of, gcd_comm}
use Rattle.wi_fraction.proofs.Divisors.{coprime_mul}
use Rattle.wi_fraction.proofs.Numbers.{number_of-lowest}

coprime_pow_right : (a b k : ℕ) → gcd a b ≡ 1 → gcd a (b ^ k) ≡ 1
coprime_pow_right a b zero h = rw (pow-zero b) (gcd-one a)
coprime_pow_right a b (suc k) h = rw (pow-suc b k) (coprime_mul a (b ^ k) b (coprime_pow_right a b k h) h)

pub coprime_pow : (a b k : ℕ) → gcd a b ≡ 1 → gcd (a ^ k) (b ^ k) ≡ 1
coprime_pow a b k h = coprime_pow_right (a ^ k) b k (gcd_comm (a ^ k) b ∙ coprime_pow_right b a k (gcd_comm b a ∙ h))

-- a power of lowest terms is in lowest terms
pub power_at : (s : Bool) (a b k : ℕ) → gcd a b ≡ 1 → number_at (with_minus s (a ^ k)) (b ^ k) ≡ number_of (with_minus s (a ^ k)) (b ^ k)
power_at s a b k h = sym (number_of-lowest s (a ^ k) (b ^ k) (coprime_pow a b k h))

one_pow : (k : ℕ) → 1 ^ k ≡ 1
one_pow zero = refl
one_pow (suc k) = rw (pow-suc 1 k, one_pow k)

zero_pow : (k : ℕ) → 0 < k → 0 ^ k ≡ 0
zero_pow zero h = absurd (omega (arith, h))
zero_pow (suc k) h = rw (pow-suc 0 k) (omega arith)

-- a size of two or more grows by a bit at least at each step
large_pow : (a k : ℕ) → 2 ≤ a → 2 ^ k ≤ a ^ k
large_pow a k h = pow-le-pow_left h k

pub pow_none : (a k : ℕ) → k ≡ 0 → Some 1 ≡ bounded (a ^ k)
pow_none a k h = rw (h, pow-zero a)

pub pow_small : (a k : ℕ) → a ≤ 1 → 0 < k → Some a ≡ bounded (a ^ k)
pow_small zero k h f = rw (zero_pow k f)
pow_small (suc zero) k h f = rw (one_pow k)
pow_small (suc (suc a)) k h f = absurd (omega (arith, h))

pub pow_too_large : (a k : ℕ) → 2 ≤ a → 127 ≤ k → None ≡ bounded (a ^ k)
pow_too_large a k h f =
    let large : 2 ^ 127 ≤ a ^ k = le_trans (pow-le-pow_right (omega arith) f) (large_pow a k h) in
    let no : nat_le (a ^ k) max_size ≡ false = grind (arith, nat_tests, large) in
    rw no

odd_sign : (n : ℤ) (k : ℕ) → int_pow n k ≡ with_minus (int_lt n (pos 0) && (k % 2 == 1)) (unsigned_abs n ^ k)
odd_sign (pos a) k = let e : nat_lt a 0 ≡ false = grind (arith, nat_tests) in ap (λ b. with_minus b (a ^ k)) (sym (ap (λ b. b && (k % 2 == 1)) e))
odd_sign (negsuc a) k = grind (arith, nat_tests)

fraction_signed : (s : Bool) (n d : ℕ) → 0 < d → fraction_of (pos n) (with_minus s d) ≡ number_of (with_minus s n) d
fraction_signed s n zero h = absurd (omega (arith, h))
fraction_signed true n (suc d) h = refl
fraction_signed false n (suc d) h = refl

pub power_down : (x : Number) (k : ℕ) → 0 < unsigned_abs x.num → number_of (with_minus (int_lt x.num (pos 0) && (suc k % 2 == 1)) (x.den ^ suc k)) (unsigned_abs x.num ^ suc k) ≡ power_of x (negsuc k)
power_down x k h = sym (ap (λ n. fraction_of (pos (x.den ^ suc k)) n) (odd_sign x.num (suc k)) ∙ fraction_signed _ (x.den ^ suc k) (unsigned_abs x.num ^ suc k) (one-le-pow (suc k) (unsigned_abs x.num) h))

pub power_below : (x : Number) (e : ℤ) → int_lt e (pos 0) ≡ true → 0 < unsigned_abs x.num → number_of (with_minus (int_lt x.num (pos 0) && (unsigned_abs e % 2 == 1)) (x.den ^ unsigned_abs e)) (unsigned_abs x.num ^ unsigned_abs e) ≡ power_of x e
power_below x (pos k) h f = absurd (grind (arith, nat_tests, h))
power_below x (negsuc k) h f = power_down x k f

pub apart_test : (n : ℤ) → n ≢ pos 0 → int_eq n (pos 0) ≡ false
apart_test (pos zero) h = absurd (h refl)
apart_test (pos (suc n)) h = grind (arith, nat_tests)
apart_test (negsuc n) h = grind (arith, nat_tests)

size_apart : (n : ℤ) → n ≢ pos 0 → 0 < unsigned_abs n
size_apart (pos zero) h = absurd (h refl)
size_apart (pos (suc n)) h = omega arith
size_apart (negsuc n) h = omega arith

pub below_zero : (x : Number) (e : ℤ) (b : Bool) (k m : ℕ) (r : Option Number) → b ≡ (int_lt x.num (pos 0) && (k % 2 == 1)) → k ≡ unsigned_abs e → m ≡ unsigned_abs x.num → int_lt e (pos 0) ≡ true → x.num ≢ pos 0 → r ≡ number_of (with_minus b (x.den ^ k)) (m ^ k) → r ≡ power_of x e
below_zero x e b k m r p q s lower apart h = h ∙ rw (p, q, s) (power_below x e lower (size_apart x.num apart))
