-- Whole numbers near a number are numbers, and so is the number with the other sign.
use Rattle.wi_fraction.proofs.Vocabulary.{◌≡◌, ℕ, ◌+◌, ◌-◌, ◌*◌, ◌<◌, ◌≤◌, ℤ, pos, negsuc, neg_ℤ, unsigned_abs, int_lt, Bool, true, false, Option, Some, unwrap_or, refl, sym, ap, ◌∙◌, arith, mul-le-mul_left, div-lt_iff_lt-mul, div-le_self, Mode, HalfAway, Away, Toward, negated, gcd-one, Number, IsNumber, number_at, number_of, with_minus, max_size, abs-neg, number_at-some, floored, int_div_euclid, rounded, rounded_size}
use Rattle.wi_fraction.proofs.Numbers.{number_of-lowest}
use Rattle.wi_fraction.proofs.Steps.{with_minus-abs}

-- the floor of n/d
abbrev pub floor_of : ℤ → ℕ → ℤ
floor_of n d = int_div_euclid n (pos d)

pub floor_fits : (n : ℤ) (d : ℕ) → unsigned_abs n ≤ max_size → unsigned_abs (floor_of n d) ≤ max_size
floor_fits (pos n) d h = omega (arith, h, div-le_self n d)
floor_fits (negsuc n) d h = omega (arith, h, div-le_self n d)

pub rounded_below : (m : Mode) (n d : ℕ) → 0 < d → rounded_size m n d ≤ n
rounded_below HalfAway n d dp =
    let least : n * 1 ≤ n * d = mul-le-mul_left n dp in
    let less : 2 * n + d < (n + 1) * (2 * d) = omega (arith, least, dp) in
    let below = (div-lt_iff_lt-mul {k = 2 * d} {x = 2 * n + d} {y = n + 1} (omega (arith, dp))).1 less in
    omega (arith, below)
rounded_below Away n d dp =
    let least : n * 1 ≤ n * d = mul-le-mul_left n dp in
    let less : n + (d - 1) < (n + 1) * d = omega (arith, least, dp) in
    let below = (div-lt_iff_lt-mul {k = d} {x = n + (d - 1)} {y = n + 1} dp).1 less in
    omega (arith, below)
rounded_below Toward n d dp = div-le_self n d

pub abs-with_minus-le : (x : Number) (k : ℕ) → k ≤ unsigned_abs x.num → unsigned_abs (with_minus (int_lt x.num (pos 0)) k) ≤ max_size
abs-with_minus-le x k h = by_case (int_lt x.num (pos 0))
  where
    by_case : (b : Bool) → unsigned_abs (with_minus b k) ≤ max_size
    by_case true = rw (abs-neg (pos k)) (omega (arith, h, x.is_number.num_fits))
    by_case false = omega (arith, h, x.is_number.num_fits)

-- a whole number that is small enough
pub whole_is : (z : ℤ) → unsigned_abs z ≤ max_size → IsNumber z 1
whole_is z h = record { above_zero = omega arith; lowest = gcd-one (unsigned_abs z); num_fits = h; den_fits = omega arith }

-- ---- the numbers that definitions name are there

-- a number is in lowest terms
pub of_parts : (x : Number) → number_of x.num x.den ≡ Some x
of_parts x =
    ap (λ (n : ℤ). number_of n x.den) (sym (with_minus-abs x.num))
    ∙ number_of-lowest (int_lt x.num (pos 0)) (unsigned_abs x.num) x.den x.is_number.lowest
    ∙ ap (λ (n : ℤ). number_at n x.den) (with_minus-abs x.num)
    ∙ number_at-some x.num x.den x refl refl

there : (x y : Number) → unwrap_or (number_of x.num x.den) y ≡ x
there x y = ap (λ (o : Option Number). unwrap_or o y) (of_parts x)

abbrev pub opposite : Number → Number
opposite x = record {
  num = neg_ℤ x.num;
  den = x.den;
  is_number = record {
    above_zero = x.is_number.above_zero;
    lowest = rw abs-neg x.is_number.lowest;
    num_fits = rw abs-neg x.is_number.num_fits;
    den_fits = x.is_number.den_fits;
  };
}

pub negated_is : (x : Number) → negated x ≡ opposite x
unfolding negated
negated_is x = there (opposite x) x

abbrev pub floor_number : Number → Number
floor_number x = record {
  num = floor_of x.num x.den;
  den = 1;
  is_number = whole_is _ (floor_fits x.num x.den x.is_number.num_fits);
}

pub floored_is : (x : Number) → floored x ≡ floor_number x
unfolding floored
floored_is x = there (floor_number x) x

abbrev pub rounded_number : Mode → Number → Number
rounded_number m x = record {
  num = with_minus (int_lt x.num (pos 0)) (rounded_size m (unsigned_abs x.num) x.den);
  den = 1;
  is_number = whole_is _ (abs-with_minus-le x _ (rounded_below m (unsigned_abs x.num) x.den x.is_number.above_zero));
}

pub rounded_is : (m : Mode) (x : Number) → rounded m x ≡ rounded_number m x
unfolding rounded
rounded_is m x = there (rounded_number m x) x
