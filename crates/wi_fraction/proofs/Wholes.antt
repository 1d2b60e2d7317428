-- Whole numbers near a number.
use Rattle.wi_fraction.proofs.Vocabulary.{◌≡◌, ℕ, suc, ◌+◌, ◌-◌, ◌/◌, ℤ, pos, negsuc, neg_ℤ, unsigned_abs, int_lt, true, false, refl, sym, ◌∙◌, arith, nat_tests, Mode, Number, with_minus, same_number, floored, rounded, rounded_size}
use Rattle.wi_fraction.proofs.NearWholes.{floor_of, floor_number, floored_is, rounded_number, rounded_is}

-- ---- the floor

pub floor_up : (n : ℤ) (d : ℕ) → int_lt n (pos 0) ≡ false → pos (unsigned_abs n / d) ≡ floor_of n d
floor_up (pos n) d h = refl
floor_up (negsuc n) d h = absurd (grind (arith, nat_tests, h))

pub floor_down : (n : ℤ) (d : ℕ) → int_lt n (pos 0) ≡ true → neg_ℤ (pos ((unsigned_abs n - 1) / d + 1)) ≡ floor_of n d
floor_down (pos n) d h = absurd (grind (arith, nat_tests, h))
floor_down (negsuc n) d h =
    let one : suc n - 1 ≡ n = omega arith in
    let next : n / d + 1 ≡ suc (n / d) = omega arith in
    rw (one, next) refl

-- ---- numbers by their parts

pub floored_from : (x y : Number) → y.num ≡ floor_of x.num x.den → y.den ≡ 1 → y ≡ floored x
floored_from x y e f = same_number y (floor_number x) e f ∙ sym (floored_is x)

pub rounded_from : (m : Mode) (x y : Number) → y.num ≡ with_minus (int_lt x.num (pos 0)) (rounded_size m (unsigned_abs x.num) x.den) → y.den ≡ 1 → y ≡ rounded m x
rounded_from m x y e f = same_number y (rounded_number m x) e f ∙ sym (rounded_is m x)
