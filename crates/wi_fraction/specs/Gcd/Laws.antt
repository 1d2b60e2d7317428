-- The greatest common divisor is one, and what follows.
use Rattle.std.specs.Prelude.{◌≡◌, ℕ, zero, suc, ◌+◌, ◌*◌, ◌/◌, ◌%◌, ◌<◌, ◌≤◌, max, ◌⊎◌, ◌≢◌, Bool, true, false, cond, ◌&&◌, ◌==◌, List, ◌∷◌, fold, filter, refl}
use Rattle.std.specs.List.{range_with_len}
use Rattle.std.specs.Int.{IsGcd, ◌∣◌}
use Rattle.std.proofs.Common.{sym, ◌∙◌, ap, subst, arith, inl, inr, rules, tests}
use Rattle.std.proofs.Math.Nat.{mod-lt, mul_assoc, add-mul, one-mul, dvd-mul_left, dvd-mul_right, dvd-mul_left_of_dvd, dvd-add_iff_right, dvd_antisymm, div-add-mod', eq_of_mul-eq-mul_right, mod-one, pos_of_dvd_of_pos}
use Rattle.std.proofs.lemmas.Bool.{both_ways, cases_eq}
use Rattle.std.proofs.lemmas.Nat.Gcd.{IsGcd-from_zero, IsGcd-from_mod, IsGcd-swap, same_from_IsGcd, le_of_dvd, dvd_of_mod-eq-zero, mod-eq-zero_of_dvd}
use Rattle.wi_fraction.specs.Gcd.{gcd}

-- the greatest number of a range that passes, one number after another: m is the greatest so far
one_more : (g m from n : ℕ) (rest : List ℕ) (b : Bool) → (b ≡ true → from ≤ g) → (b ≡ false → from ≢ g) → m ≤ g → (m ≡ g) ⊎ ((from ≤ g) × (g < from + suc n))
    → ((k : ℕ) → k ≤ g → (k ≡ g) ⊎ ((from + 1 ≤ g) × (g < from + 1 + n)) → fold max k rest ≡ g) → fold max m (cond b (from ∷ rest) rest) ≡ g
one_more g m from n rest true below apart most (inl e) more = more (max m from) (omega (arith, below refl, most)) (inl (omega (arith, below refl, e)))
one_more g m from n rest true below apart most (inr w) more =
    elim (cases_eq from g) [
      | inl e ↦ more (max m from) (omega (arith, e, most)) (inl (omega (arith, e, most)))
      | inr d ↦ more (max m from) (omega (arith, below refl, most)) (inr (omega (arith, w.0, d), omega (arith, w.1)))
    ]
one_more g m from n rest false below apart most (inl e) more = more m most (inl e)
one_more g m from n rest false below apart most (inr w) more = more m most (inr (omega (arith, w.0, apart refl), omega (arith, w.1)))

greatest : (test : ℕ → Bool) (g : ℕ) → test g ≡ true → ((d : ℕ) → test d ≡ true → d ≤ g) → (n from m : ℕ) → m ≤ g → (m ≡ g) ⊎ ((from ≤ g) × (g < from + n))
    → fold max m (filter test (range_with_len from n)) ≡ g
greatest test g is below zero from m most (inl e) = e
greatest test g is below zero from m most (inr w) = absurd (omega (arith, w.0, w.1))
greatest test g is below (suc n) from m most w =
    one_more g m from n (filter test (range_with_len (from + 1) n)) (test from) (below from) (λ no e. both_ways (test g) (ap test (sym e) ∙ no) is) most w
    (λ k. greatest test g is below n (from + 1) k)

-- A greatest common divisor, of which each multiple is divided by what divides the like multiples of both.
record Divisor (a b : ℕ) : Type 0 where
  g : ℕ
  is : IsGcd a b g
  multiples : (d m : ℕ) → d ∣ a * m → d ∣ b * m → d ∣ g * m

dvd_rem_mul : (d a b m : ℕ) → d ∣ a * m → d ∣ b * m → d ∣ (a % b) * m
dvd_rem_mul d a b m p q =
    let e : a * m ≡ a / b * (b * m) + (a % b) * m = ap (λ n. n * m) (sym (div-add-mod' a b)) ∙ add-mul (a / b * b) (a % b) m ∙ ap (λ n. n + (a % b) * m) (mul_assoc (a / b) b m) in
    (dvd-add_iff_right d {m = a / b * (b * m)} {n = (a % b) * m} (dvd-mul_left_of_dvd d q (a / b))).1 (subst (λ n. d ∣ n) e p)

-- Euclid's algorithm finds one, in so many steps
euclid : (k a b : ℕ) → b ≤ k → Divisor a b
euclid zero a b h = record { g = a; is = IsGcd-from_zero a b (omega arith); multiples = λ d m p q. p }
euclid (suc k) a zero h = record { g = a; is = IsGcd-from_zero a zero refl; multiples = λ d m p q. p }
euclid (suc k) a (suc c) h =
    let less : a % suc c < suc c = mod-lt a (omega arith) in
    let found : Divisor (suc c) (a % suc c) = euclid k (suc c) (a % suc c) (omega arith) in
    record { g = found.g; is = IsGcd-from_mod a (suc c) _ found.is; multiples = λ d m p q. found.multiples d m q (dvd_rem_mul d a (suc c) m p q) }

passes : (a b g : ℕ) → g ∣ a → g ∣ b → (a % g == 0 && b % g == 0) ≡ true
passes a b g p q = rw (mod-eq-zero_of_dvd g p, mod-eq-zero_of_dvd g q) refl

divides_both : (a b d : ℕ) → (a % d == 0 && b % d == 0) ≡ true → (d ∣ a) × (d ∣ b)
divides_both a b d h =
    let first : a % d ≡ 0 = search (rules, tests) in
    let second : b % d ≡ 0 = search (rules, tests) in
    (dvd_of_mod-eq-zero d first, dvd_of_mod-eq-zero d second)

pub gcd_from_IsGcd : (a b g : ℕ) → IsGcd a b g → g ≡ gcd a b
unfolding gcd
gcd_from_IsGcd a zero g h = same_from_IsGcd a zero g a h (IsGcd-from_zero a zero refl)
gcd_from_IsGcd a (suc c) g h =
    let above_zero : 0 < g = pos_of_dvd_of_pos h.1 (omega arith) in
    let most : g ≤ suc c = le_of_dvd (omega arith) h.1 in
    let below : (d : ℕ) → (a % d == 0 && suc c % d == 0) ≡ true → d ≤ g = λ d e. let p = divides_both a (suc c) d e in le_of_dvd above_zero (h.2 d p.0 p.1) in
    sym (greatest (λ d. a % d == 0 && suc c % d == 0) g (passes a (suc c) g h.0 h.1) below (suc c) 1 1 (omega arith) (inr (omega arith, omega arith)))

pub is_gcd : (a b : ℕ) → IsGcd a b (gcd a b)
is_gcd a b = let found : Divisor a b = euclid b a b (omega arith) in subst (λ g. IsGcd a b g) (gcd_from_IsGcd a b found.g found.is) found.is

-- what divides both multiples divides that multiple of the greatest common divisor
pub dvd_gcd_mul : (d a b m : ℕ) → d ∣ a * m → d ∣ b * m → d ∣ gcd a b * m
dvd_gcd_mul d a b m p q =
    let found : Divisor a b = euclid b a b (omega arith) in
    subst (λ g. d ∣ g * m) (gcd_from_IsGcd a b found.g found.is) (found.multiples d m p q)

-- a whole number is in lowest terms over one
pub gcd-one : (a : ℕ) → gcd a 1 ≡ 1
unfolding gcd
gcd-one a = rw (mod-one a) refl

pub gcd_comm : (a b : ℕ) → gcd a b ≡ gcd b a
gcd_comm a b = gcd_from_IsGcd b a (gcd a b) (IsGcd-swap a b _ (is_gcd a b))

-- Euclid's lemma
pub dvd_of_dvd-mul : (d b m : ℕ) → gcd d b ≡ 1 → d ∣ b * m → d ∣ m
dvd_of_dvd-mul d b m one q =
    let e : gcd d b * m ≡ m = ap (λ n. n * m) one ∙ one-mul m in
    subst (λ n. d ∣ n) e (dvd_gcd_mul d d b m (dvd-mul_right d m) q)

-- two fractions in lowest terms of one value are one fraction
pub same_lowest : (a b c d : ℕ) → 0 < b → 0 < d → gcd a b ≡ 1 → gcd c d ≡ 1 → a * d ≡ c * b → (a ≡ c) × (b ≡ d)
same_lowest a b c d bp dp p q e =
    let to_d : b ∣ d = dvd_of_dvd-mul b a d (gcd_comm b a ∙ p) (subst (λ n. b ∣ n) (sym e) (dvd-mul_left b c)) in
    let to_b : d ∣ b = dvd_of_dvd-mul d c b (gcd_comm d c ∙ q) (subst (λ n. d ∣ n) e (dvd-mul_left d a)) in
    let same : b ≡ d = dvd_antisymm to_d to_b in
    (eq_of_mul-eq-mul_right d dp a c (e ∙ ap (λ n. c * n) same), same)
