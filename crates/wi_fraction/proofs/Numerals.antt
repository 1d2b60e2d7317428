-- What a number token is read as can be written as a decimal without a sign.
use Rattle.wi_fraction.proofs.Vocabulary.{◌||◌, sym, ap, ◌∙◌, subst, if◌then◌else◌, arith, nat_tests, ◌∣◌, is_ascii_digit, prefix_len, byte, digits_value, without_leading_plus, div-mul_cancel, dvd-mul_right, mod-eq-zero_of_dvd, gcd, is_gcd, Number, number_of, number_at-is, is_numeral, decimal_value, raised, lowered, with_exponent, exponent_after, scaled_after, point_after, decimal_after, read_decimal, IsUnsignedDecimal}
use Rattle.std.proofs.Common.{◌≡◌, ℕ, ◌/◌, ◌^◌, pos, Bool, true, false, ◌==◌, not, List, [], ◌∷◌, length, take, drop, Option, Some, None, int_div, int_lt, nat_lt, slice_index}

-- the number, if there is one, is a decimal without a sign
abbrev Good : Option Number → Type 0
Good o = (x : Number) → o ≡ Some x → IsUnsignedDecimal x

of_none : Good None
of_none x e = cc

none_below : (n : ℕ) → nat_lt n 0 ≡ false
none_below n = grind (arith, nat_tests)

of_quotient : (n k : ℕ) → Good (number_of (pos n) (10 ^ k))
unfolding number_of
of_quotient n k x e =
    let d = 10 ^ k in
    let g = gcd n d in
    let is = number_at-is (int_div (pos n) (pos g)) (d / g) x e in
    let up : d / g ∣ d = subst (λ m. d / g ∣ m) (div-mul_cancel g (is_gcd n d).1) (dvd-mul_right (d / g) g) in
    record { decimal = (k, mod-eq-zero_of_dvd x.den (subst (λ m. m ∣ d) (sym is.1) up)); unsigned = ap (λ m. int_lt m (pos 0)) is.0 ∙ none_below (n / g) }

of_test : (b : Bool) (p q : Option Number) → Good p → Good q → Good (if b then p else q)
of_test true p q h k = h
of_test false p q h k = k

of_exponent : (s : Bool) (whole parts digits : List ℕ) → Good (with_exponent s whole parts digits)
unfolding with_exponent
of_exponent s whole parts digits =
    of_test (not (is_numeral digits)) None _ of_none
    (of_test s (lowered whole parts (digits_value 10 digits)) (raised whole parts (digits_value 10 digits)) (of_quotient _ _) (of_quotient _ _))

of_sign : (whole parts bs : List ℕ) → Good (exponent_after whole parts bs)
unfolding exponent_after
of_sign whole parts bs = of_test (slice_index bs 0 == byte "-") _ _ (of_exponent true whole parts (drop 1 bs)) (of_exponent false whole parts (without_leading_plus bs))

of_rest : (whole parts bs : List ℕ) → Good (scaled_after whole parts bs)
unfolding scaled_after
of_rest whole parts [] = of_quotient _ _
of_rest whole parts (c ∷ more) = of_test (c == byte "e" || c == byte "E") _ None (of_sign whole parts more) of_none

of_point : (whole bs : List ℕ) → Good (point_after whole bs)
unfolding point_after
of_point whole bs =
    let k = prefix_len is_ascii_digit bs in
    of_test (k == 0) None _ of_none (of_rest whole (take k bs) (drop k bs))

of_digits : (whole bs : List ℕ) → Good (decimal_after whole bs)
unfolding decimal_after
of_digits whole [] = of_test (length whole == 0) None (decimal_value false whole []) of_none (of_quotient _ 0)
of_digits whole (c ∷ more) =
    of_test (c == byte ".") _ _ (of_point whole more) (of_test (length whole == 0) None _ of_none (of_rest whole [] (c ∷ more)))

pub read_decimal-numeral : (bs : List ℕ) (x : Number) → read_decimal bs ≡ Some x → IsUnsignedDecimal x
unfolding read_decimal
read_decimal-numeral bs = let k = prefix_len is_ascii_digit bs in of_digits (take k bs) (drop k bs)
