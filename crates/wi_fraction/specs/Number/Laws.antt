-- What makes two parts a number, and that a number is known by them.
use Rattle.std.specs.Prelude.{◌≡◌, ℕ, zero, suc, ℤ, pos, negsuc, neg_ℤ, unsigned_abs, true, false, ◌⊎◌, Option, Some, None, refl}
use Rattle.std.specs.Coded.{Coded, coded×, coded_ℤ, coded_ℕ}
use Rattle.std.proofs.Common.{ap, sym, subst, arith, inl, inr, ⊎_elim}
use Rattle.std.proofs.lemmas.Bool.{both_ways, cases_Bool}
use Rattle.std.proofs.lemmas.Bool.Decides.{nat_tests}
use mathlib.Core.Path.{path_j}
use Rattle.std.proofs.Props.{props}
use Rattle.wi_fraction.specs.Number.{IsNumber, IsNumber-from_test, Number, is_number_test, number_at}

-- two parts make a number in one way
pub IsNumber-prop : (n : ℤ) (d : ℕ) → IsProp (IsNumber n d)
IsNumber-prop n d = hlevel props

-- a number is known by its two parts
pub same_number : (x y : Number) → x.num ≡ y.num → x.den ≡ y.den → x ≡ y
same_number x y e f =
    path_j (λ (m : ℤ) (_ : x.num ≡ m). (d : ℕ) → x.den ≡ d → (q : IsNumber m d) → ◌≡◌ {A = Number} x (record { num = m; den = d; is_number = q }))
    (λ d g. path_j (λ (k : ℕ) (_ : x.den ≡ k). (q : IsNumber x.num k) → ◌≡◌ {A = Number} x (record { num = x.num; den = k; is_number = q }))
    (λ q i. record { num = x.num; den = x.den; is_number = IsNumber-prop x.num x.den x.is_number q i }) g)
    e y.den f y.is_number

-- the code of a number is that of its two parts
abbrev pub number_code : Coded Number
number_code = record {
  code = λ x. (coded× coded_ℤ coded_ℕ).code (x.num, x.den);
  inj = λ x y e. let p = (coded× coded_ℤ coded_ℕ).inj (x.num, x.den) (y.num, y.den) e in same_number x y (ap (λ (q : ℤ × ℕ). q.0) p) (ap (λ (q : ℤ × ℕ). q.1) p);
}

test_from_IsNumber : (n : ℤ) (d : ℕ) → IsNumber n d → is_number_test n d ≡ true
unfolding is_number_test
test_from_IsNumber n d h = grind (arith, nat_tests)

-- either case gives it
by_cases : {A B C : Type 0} (f : A → C) (g : B → C) (c : A ⊎ B) (z : C) → ((a : A) → f a ≡ z) → ((b : B) → g b ≡ z) → ⊎_elim f g c ≡ z
by_cases f g (inl a) z p q = p a
by_cases f g (inr b) z p q = q b

pub number_at-some : (n : ℤ) (d : ℕ) (x : Number) → x.num ≡ n → x.den ≡ d → number_at n d ≡ Some x
unfolding number_at
number_at-some n d x e f =
    let p : IsNumber n d = subst (λ m. IsNumber m d) e (subst (λ k. IsNumber x.num k) f x.is_number) in
    by_cases _ _ (cases_Bool (is_number_test n d)) (Some x) (λ holds. ap Some (same_number _ x (sym e) (sym f)))
    (λ fails. absurd (both_ways (is_number_test n d) fails (test_from_IsNumber n d p)))

pub number_at-none : (n : ℤ) (d : ℕ) → ¬ IsNumber n d → number_at n d ≡ None
unfolding number_at
number_at-none n d h = by_cases _ _ (cases_Bool (is_number_test n d)) None (λ holds. absurd (h (IsNumber-from_test n d holds))) (λ fails. refl)

pub abs-neg : (z : ℤ) → unsigned_abs (neg_ℤ z) ≡ unsigned_abs z
abs-neg (pos zero) = refl
abs-neg (pos (suc n)) = refl
abs-neg (negsuc n) = refl

found_is : (n : ℤ) (d : ℕ) (c : (is_number_test n d ≡ true) ⊎ (is_number_test n d ≡ false)) (z : Number)
    → ⊎_elim (λ holds. Some (record { num = n; den = d; is_number = IsNumber-from_test n d holds })) (λ fails. None) c ≡ Some z → (z.num ≡ n) × (z.den ≡ d)
found_is n d (inl holds) z e =
    let same : record { num = n; den = d; is_number = IsNumber-from_test n d holds } ≡ z = cc in
    (sym (ap (λ (x : Number). x.num) same), sym (ap (λ (x : Number). x.den) same))
found_is n d (inr fails) z e = let none : ◌≡◌ {A = Option Number} None (Some z) = e in cc

pub number_at-is : (n : ℤ) (d : ℕ) (z : Number) → number_at n d ≡ Some z → (z.num ≡ n) × (z.den ≡ d)
unfolding number_at
number_at-is n d z e = found_is n d _ z e
