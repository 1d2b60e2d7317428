-- The places of a decimal: how many, and that no fewer will do.
use Rattle.wi_fraction.proofs.Vocabulary.{◌≡◌, ℕ, zero, suc, ◌+◌, ◌-◌, ◌*◌, ◌/◌, ◌%◌, ◌^◌, ◌<◌, ◌≤◌, Option, Some, None, refl, ◌≢◌, ◌∙◌, sym, ap, arith, nat_tests, mod-lt, div-add-mod, mul-lt-mul_of_pos_right, mod-eq_of_lt, pow-le-pow_right, ShowsFewestPlaces, places, places_from}

pub places_from_divide : (t k d j : ℕ) → places_from t k d ≡ Some j → 10 ^ j % d ≡ 0
unfolding places_from
places_from_divide zero k d j e = cc
places_from_divide (suc t) k d j e =
    let further = places_from_divide t (k + 1) d j in
    grind (arith, nat_tests, further)

pub places_divide : (d j : ℕ) → places 12 d ≡ Some j → 10 ^ j % d ≡ 0
unfolding places places_from
places_divide d j e = places_from_divide 13 0 d j e

places_from_least : (t k d j i : ℕ) → places_from t k d ≡ Some j → k ≤ i → i < j → 10 ^ i % d ≢ 0
unfolding places_from
places_from_least zero k d j i e from below z = cc
places_from_least (suc t) k d j i e from below z =
    let further = places_from_least t (k + 1) d j i in
    grind (arith, nat_tests, further)

-- no fewer places will do
pub places_least : (d j i : ℕ) → places 12 d ≡ Some j → i < j → 10 ^ i % d ≢ 0
unfolding places places_from
places_least d j i e h = places_from_least 13 0 d j i e (omega arith) h

pub places_from_none : (t k d i : ℕ) → places_from t k d ≡ None → k ≤ i → i < k + t → 10 ^ i % d ≢ 0
unfolding places_from
places_from_none zero k d i e from below z = omega arith
places_from_none (suc t) k d i e from below z =
    let further = places_from_none t (k + 1) d i in
    grind (arith, nat_tests, further)

-- where there are none, d does not divide the twelfth power of ten
pub places_none : (d : ℕ) → places 12 d ≡ None → 10 ^ 12 % d ≢ 0
unfolding places places_from
places_none d e = places_from_none 13 0 d 12 e (omega arith) (omega arith)

-- ---- as an exact decimal

pub all_divide : (d j : ℕ) → places 126 d ≡ Some j → 10 ^ j % d ≡ 0
unfolding places places_from
all_divide d j e = places_from_divide 127 0 d j e

all_least : (d j i : ℕ) → places 126 d ≡ Some j → i < j → 10 ^ i % d ≢ 0
unfolding places places_from
all_least d j i e h = places_from_least 127 0 d j i e (omega arith) h

pub all_none : (d : ℕ) → places 126 d ≡ None → 10 ^ 126 % d ≢ 0
unfolding places places_from
all_none d e = places_from_none 127 0 d 126 e (omega arith) (omega arith)

-- ---- divisors of powers

pub multiple_of : (t d : ℕ) → t % d ≡ 0 → t ≡ d * (t / d)
multiple_of t d e = omega (arith, div-add-mod t d, e)

pub factor_pos : (t d m : ℕ) → t ≡ d * m → 0 < t → 0 < m
factor_pos t d zero e h = absurd (omega (arith, e, h))
factor_pos t d (suc m) e h = omega arith

pub rest_less : (n d m : ℕ) → 0 < d → 0 < m → n % d * m < d * m
rest_less n d m dp mp = mul-lt-mul_of_pos_right (mod-lt n dp) mp

pub divides_one : (d : ℕ) → 0 < d → 10 ^ 0 % d ≡ 0 → d ≡ 1
divides_one zero h e = absurd (omega (arith, h))
divides_one (suc zero) h e = refl
divides_one (suc (suc d)) h e = let one : 1 % suc (suc d) ≡ 1 = mod-eq_of_lt (omega arith) in absurd (omega (arith, sym one ∙ e))

places_from_few : (t k d j : ℕ) → places_from t k d ≡ Some j → j < k + t
unfolding places_from
places_from_few zero k d j e = cc
places_from_few (suc t) k d j e =
    let further = places_from_few t (k + 1) d j in
    grind (arith, nat_tests, further)

pub places_few : (d j : ℕ) → places 12 d ≡ Some j → j ≤ 12
unfolding places places_from
places_few d j e = omega (arith, places_from_few 13 0 d j e)

pub power_few : (k : ℕ) → k ≤ 12 → 10 ^ k ≤ 10 ^ 12
power_few k h = pow-le-pow_right (omega arith) h

pub places_from_end : (t k d : ℕ) → t ≡ 0 → None ≡ places_from t k d
unfolding places_from
places_from_end t k d h = rw h refl

pub places_from_found : (t k p d : ℕ) → p ≡ 10 ^ k → t ≢ 0 → p % d ≡ 0 → Some k ≡ places_from t k d
unfolding places_from
places_from_found zero k p d e h f = absurd (h refl)
places_from_found (suc t) k p d e h f = let g : 10 ^ k % d ≡ 0 = rw (← e) f in grind (arith, nat_tests, g)

pub places_from_more : (t k p d : ℕ) (r : Option ℕ) → p ≡ 10 ^ k → t ≢ 0 → p % d ≢ 0 → r ≡ places_from (t - 1) (k + 1) d → r ≡ places_from t k d
unfolding places_from
places_from_more zero k p d r e h f g = absurd (h refl)
places_from_more (suc t) k p d r e h f g =
    let apart : 10 ^ k % d ≢ 0 = rw (← e) f in
    let before : suc t - 1 ≡ t = omega arith in
    let same : r ≡ places_from t (k + 1) d = g ∙ ap (λ n. places_from n (k + 1) d) before in
    grind (arith, nat_tests, apart, same)

pub shows_fewest_places : (d : ℕ) → ShowsFewestPlaces d
shows_fewest_places d = record {
  shown = λ j e. record { enough = places_divide d j e; no_fewer = λ i h. places_least d j i e h };
  not_shown = λ e. places_none d e;
  written = λ j e. record { enough = all_divide d j e; no_fewer = λ i h. all_least d j i e h };
  not_written = λ e. all_none d e;
}
