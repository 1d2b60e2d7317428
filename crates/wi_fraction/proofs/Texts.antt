-- The shown text by its parts.
use Rattle.wi_fraction.proofs.Vocabulary.{◌≡◌, ℕ, zero, suc, ◌+◌, ◌*◌, ◌/◌, ◌%◌, ◌^◌, ◌<◌, ◌≤◌, Bool, ◌∷◌, ◌++◌, length, drop, Option, Some, None, refl, decimal, sym, subst, arith, div-one, one-le-pow, places, size_text}
use Rattle.wi_fraction.proofs.Padded.{decimal_after_one}
use Rattle.wi_fraction.proofs.Places.{places_divide, places_few, power_few, multiple_of, factor_pos, rest_less, divides_one}

-- the digits after the point are fewer than the places
pub rest_few : (n d k : ℕ) → 0 < d → places 12 d ≡ Some k → n % d * (10 ^ k / d) < 10 ^ k
rest_few n d k dp e =
    let multiple : 10 ^ k ≡ d * (10 ^ k / d) = multiple_of (10 ^ k) d (places_divide d k e) in
    let mp : 0 < 10 ^ k / d = factor_pos (10 ^ k) d (10 ^ k / d) multiple (one-le-pow k 10 (omega arith)) in
    subst (λ u. n % d * (10 ^ k / d) < u) (sym multiple) (rest_less n d (10 ^ k / d) dp mp)

pub none_text : (s : Bool) (n d : ℕ) (p : Option ℕ) → p ≡ None → size_text p n d ≡ decimal n ++ 47 ∷ decimal d
unfolding size_text
none_text s n d p e = rw e refl

pub whole_text : (n d : ℕ) → places 12 d ≡ Some 0 → 0 < d → size_text (places 12 d) n d ≡ decimal (n / d)
unfolding size_text
whole_text n d e dp = let one : d ≡ 1 = divides_one d dp (places_divide d 0 e) in rw (e, one, div-one n) refl

-- the text with a point is the whole part, the point, and the number with a one in front without that one
pub point_text : (n d k : ℕ) → places 12 d ≡ Some k → 0 < k → 0 < d → size_text (places 12 d) n d ≡ decimal (n / d) ++ 46 ∷ drop 1 (decimal (10 ^ k + n % d * (10 ^ k / d)))
unfolding size_text
point_text n d zero e f dp = absurd (omega (arith, f))
point_text n d (suc k) e f dp =
    let few = power_few (suc k) (places_few d (suc k) e) in
    let less = rest_few n d (suc k) dp e in
    rw (e, decimal_after_one (suc k) (n % d * (10 ^ suc k / d)) less (omega (arith, few, less))) refl

-- the number with a one in front is small
pub written_small : (n d k : ℕ) → 0 < d → places 12 d ≡ Some k → 10 ^ k + n % d * (10 ^ k / d) < 2 * 10 ^ 12
written_small n d k dp e = omega (arith, power_few k (places_few d k e), rest_few n d k dp e)

pub one_first : (n d k : ℕ) → 0 < d → places 12 d ≡ Some k → 1 ≤ length (decimal (10 ^ k + n % d * (10 ^ k / d)))
one_first n d k dp e =
    let few = power_few k (places_few d k e) in
    let less = rest_few n d k dp e in
    rw (decimal_after_one k (n % d * (10 ^ k / d)) less (omega (arith, few, less))) (omega arith)
