-- What zero does to a sum and to a product.
use Rattle.wi_lookup_functions.proofs.Words.{◌≡◌, ℕ, ◌≤◌, Some, refl, sym, ap, ◌∙◌, arith, pos, negsuc, ◌/◌, ◌*ℤ◌, ◌+ℤ◌, unsigned_abs, nat_tests, ints, div-one, div_self, mul-one, bounded, int_bounded, gcd, number_of, max_size, gcd-one, zero_of, of_parts, bounded-small, sum_from_steps, mul-one-int, mul-none, fitting, addition, multiplication, zero_number}
use Rattle.std.specs.Prelude.{ℤ, ◌*◌, Ok}
use Rattle.wi_fraction.specs.Number as numbers
use Rattle.wi_fraction.proofs.Numbers.{zero_number as zero_is}

int_bounded_is : (z : ℤ) → unsigned_abs z ≤ max_size → Some z ≡ int_bounded z
int_bounded_is z h = grind (arith, nat_tests, h)

zero_times : (n : ℕ) → pos 0 *ℤ pos n ≡ pos 0
zero_times n = omega (arith, ints)

plus_zero : (z : ℤ) → z +ℤ pos 0 ≡ z
plus_zero (pos n) = omega (arith, ints)
plus_zero (negsuc n) = omega (arith, ints)

-- a sum with zero is the other
pub added_zero : (x : numbers.Number) → addition x zero_number ≡ Ok x
added_zero x =
    let multiple : x.den / gcd x.den 1 * 1 ≡ x.den = ap (λ (g : ℕ). x.den / g * 1) (gcd-one x.den) ∙ mul-one (x.den / 1) ∙ div-one x.den in
    let first : x.num *ℤ pos (x.den / x.den) ≡ x.num = ap (λ (k : ℕ). x.num *ℤ pos k) (div_self x.is_number.above_zero) ∙ mul-one-int x.num in
    let second : pos 0 *ℤ pos (x.den / 1) ≡ pos 0 = zero_times (x.den / 1) in
    sym (ap fitting (sum_from_steps x zero_number x.den x.num (pos 0) x.num (Some x)
    (bounded-small x.den x.is_number.den_fits ∙ ap bounded (sym multiple))
    (int_bounded_is x.num x.is_number.num_fits ∙ ap int_bounded (sym first))
    (int_bounded_is (pos 0) (omega arith) ∙ ap int_bounded (sym second))
    (int_bounded_is x.num x.is_number.num_fits ∙ ap int_bounded (sym (plus_zero x.num)))
    (sym (of_parts x))))

-- and a product with zero is zero
pub multiplied_zero : (x : numbers.Number) → multiplication x zero_number ≡ Ok zero_number
multiplied_zero x =
    ap fitting (ap (λ (n : ℤ). number_of n (x.den * 1)) (mul-none x.num)
    ∙ ap (λ (d : ℕ). number_of (pos 0) d) (mul-one x.den)
    ∙ zero_of x.den x.is_number.above_zero
    ∙ sym (zero_is zero_number refl refl))
