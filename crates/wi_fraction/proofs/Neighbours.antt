-- The floor is the greatest whole number that is not above, and what each mode rounds to.
use Rattle.wi_fraction.proofs.Vocabulary.{◌≡◌, ℕ, suc, ◌+◌, ◌-◌, ◌*◌, ◌/◌, ◌<◌, ◌≤◌, ℤ, pos, negsuc, neg_ℤ, ◌*ℤ◌, ◌≤ℤ◌, unsigned_abs, int_lt, nat_lt, false, refl, sym, ap, ◌∙◌, subst, inl, inr, arith, cases_lt, nat_tests, ints, div-mul-le_self, lt-div-mul-add, div-lt_iff_lt-mul, le-div_iff_mul-le, mul-le-mul_right, mul-pos, Mode, HalfAway, Away, Toward, NotAbove, NotBelow, distance, IsGreatestNotAbove, IsLeastNotBelow, IsNearest, HasFloor, IsRounded, Number, with_minus, abs-neg, rounded, rounded_size}
use Rattle.wi_fraction.proofs.NearWholes.{floor_of, rounded_below, floored_is, rounded_is}
use Rattle.wi_fraction.proofs.Values.{neg-neg, neg-mul}

-- ---- below and above

not_above_floor : (n : ℤ) (d : ℕ) → 0 < d → NotAbove (floor_of n d) n d
not_above_floor (pos n) d dp = let l = div-mul-le_self n d in omega (arith, ints)
not_above_floor (negsuc n) d dp = let l : n < n / d * d + d = lt-div-mul-add dp in omega (arith, ints)

greatest_floor : (n : ℤ) (d : ℕ) → 0 < d → (w : ℤ) → NotAbove w n d → w ≤ℤ floor_of n d
greatest_floor (pos n) d dp (pos a) h =
    let l : a * d ≤ n = omega (arith, ints) in
    let m : a ≤ n / d = (le-div_iff_mul-le {k = d} {x = a} {y = n} dp).1 l in
    omega (arith, ints)
greatest_floor (pos n) d dp (negsuc a) h = omega (arith, ints)
greatest_floor (negsuc n) d dp (pos a) h = absurd (omega (arith, ints))
greatest_floor (negsuc n) d dp (negsuc a) h =
    let l : n < suc a * d = omega (arith, ints) in
    let m : n / d < suc a = (div-lt_iff_lt-mul {k = d} {x = n} {y = suc a} dp).1 l in
    omega (arith, ints)

floor_is : (n : ℤ) (d : ℕ) → 0 < d → IsGreatestNotAbove n d (floor_of n d)
floor_is n d dp = record { not_above = not_above_floor n d dp; greatest = greatest_floor n d dp }

pub has_floor : (x : Number) → HasFloor x
has_floor x = record {
  whole = ap (λ (y : Number). y.den) (floored_is x);
  is = subst (λ (y : Number). IsGreatestNotAbove x.num x.den y.num) (sym (floored_is x)) (floor_is x.num x.den x.is_number.above_zero);
}

-- ---- the sizes that are rounded to

least_away : (m d : ℕ) → 0 < d → IsLeastNotBelow (pos m) d (pos (rounded_size Away m d))
least_away m d dp = record { not_below = below; least = least }
  where
    below : NotBelow (pos (rounded_size Away m d)) (pos m) d
    below = let l : m + (d - 1) < (m + (d - 1)) / d * d + d = lt-div-mul-add dp in omega (arith, ints)

    least : (w : ℤ) → NotBelow w (pos m) d → pos (rounded_size Away m d) ≤ℤ w
    least (pos a) h =
        let l : m ≤ a * d = omega (arith, ints) in
        let more : m + (d - 1) < (a + 1) * d = omega (arith, l, dp) in
        let k : (m + (d - 1)) / d < a + 1 = (div-lt_iff_lt-mul {k = d} {x = m + (d - 1)} {y = a + 1} dp).1 more in
        omega (arith, ints)
    least (negsuc a) h = let l : 0 < suc a * d = mul-pos (omega arith) dp in absurd (omega (arith, ints))

-- the nearest size to m/d, the larger of two that are as near
module _ (m d q : ℕ) (dp : 0 < d) (above : q * (2 * d) ≤ 2 * m + d) (under : 2 * m + d < q * (2 * d) + 2 * d) where
  farther_on : (a b : ℕ) → a < b → (a + 1) * d ≤ b * d
  farther_on a b h = mul-le-mul_right d (omega (arith, h))

  nearest_size : (w : ℤ) → distance (pos q) (pos m) d ≤ distance w (pos m) d
  nearest_size (pos a) =
      elim (cases_lt q a) [
        | inl h ↦ let l = farther_on q a h in omega (arith, ints, above, under, l)
        | inr h ↦ elim (cases_lt a q) [
          | inl k ↦ let l = farther_on a q k in omega (arith, ints, above, under, l)
          | inr k ↦ let e : a ≡ q = omega (arith, h, k) in rw e (omega arith)
        ]
      ]
  nearest_size (negsuc a) =
      let l : 1 * d ≤ suc a * d = mul-le-mul_right d (omega arith) in
      omega (arith, ints, above, under, l)

  farther_size : (w : ℤ) → distance w (pos m) d ≡ distance (pos q) (pos m) d → unsigned_abs w ≤ q
  farther_size (pos a) e =
      elim (cases_lt q a) [
        | inl h ↦ let l = farther_on q a h in absurd (omega (arith, ints, above, under, l, e))
        | inr h ↦ h
      ]
  farther_size (negsuc a) e =
      let l : 1 * d ≤ suc a * d = mul-le-mul_right d (omega arith) in
      absurd (omega (arith, ints, above, under, l, e))

  nearest_by : IsNearest (pos m) d (pos q)
  nearest_by = record { nearest = nearest_size; farther = farther_size }

nearest_half : (m d : ℕ) → 0 < d → IsNearest (pos m) d (pos (rounded_size HalfAway m d))
nearest_half m d dp = nearest_by m d (rounded_size HalfAway m d) dp (div-mul-le_self (2 * m + d) (2 * d)) (lt-div-mul-add (omega (arith, dp)))

-- ---- on the other side of zero

turned_down : (n y : ℤ) (d : ℕ) → IsLeastNotBelow n d y → IsGreatestNotAbove (neg_ℤ n) d (neg_ℤ y)
turned_down n y d h = record {
  not_above = rw (neg-mul y d) (let l = h.not_below in omega (arith, ints));
  greatest = λ w k.
      let l : n ≤ℤ (neg_ℤ w *ℤ pos d) = rw (neg-mul w d) (omega (arith, ints, k)) in
      let m = h.least (neg_ℤ w) l in
      omega (arith, ints, m);
}

turned_up : (n y : ℤ) (d : ℕ) → IsGreatestNotAbove n d y → IsLeastNotBelow (neg_ℤ n) d (neg_ℤ y)
turned_up n y d h = record {
  not_below = rw (neg-mul y d) (let l = h.not_above in omega (arith, ints));
  least = λ w k.
      let l : (neg_ℤ w *ℤ pos d) ≤ℤ n = rw (neg-mul w d) (omega (arith, ints, k)) in
      let m = h.greatest (neg_ℤ w) l in
      omega (arith, ints, m);
}

distance_turned : (w n : ℤ) (d : ℕ) → distance w (neg_ℤ n) d ≡ distance (neg_ℤ w) n d
distance_turned w n d = rw (neg-mul w d) (omega (arith, ints))

turned_near : (n y : ℤ) (d : ℕ) → IsNearest n d y → IsNearest (neg_ℤ n) d (neg_ℤ y)
turned_near n y d h =
    let same : distance (neg_ℤ y) (neg_ℤ n) d ≡ distance y n d = distance_turned (neg_ℤ y) n d ∙ ap (λ z. distance z n d) (neg-neg y) in
    record {
      nearest = λ w. rw (same, distance_turned w n d) (h.nearest (neg_ℤ w));
      farther = λ w e. rw (abs-neg y) (rw (abs-neg w) at (h.farther (neg_ℤ w) (sym (distance_turned w n d) ∙ e ∙ same)));
    }

-- ---- numbers of either sign

signed_up : (n : ℤ) (k : ℕ) → pos 0 ≤ℤ n → pos k ≡ with_minus (int_lt n (pos 0)) k
signed_up (pos n) k h = let e : nat_lt n 0 ≡ false = grind (arith, nat_tests) in rw e refl
signed_up (negsuc n) k h = absurd (omega (arith, ints))

signed_down : (n : ℤ) (k : ℕ) → n ≤ℤ pos 0 → k ≤ unsigned_abs n → neg_ℤ (pos k) ≡ with_minus (int_lt n (pos 0)) k
signed_down (pos n) k h l =
    let e : nat_lt n 0 ≡ false = grind (arith, nat_tests) in
    let none : k ≡ 0 = omega (arith, ints) in
    rw (e, none) refl
signed_down (negsuc n) k h l = refl

size_up : (n : ℤ) → pos 0 ≤ℤ n → pos (unsigned_abs n) ≡ n
size_up (pos n) h = refl
size_up (negsuc n) h = absurd (omega (arith, ints))

size_down : (n : ℤ) → n ≤ℤ pos 0 → neg_ℤ (pos (unsigned_abs n)) ≡ n
size_down (pos n) h = omega (arith, ints)
size_down (negsuc n) h = refl

-- what holds of the size of n/d and of what it is rounded to holds of both with their sign
module _ (P : ℤ → ℤ → Type 0) (m : Mode) (n : ℤ) (d : ℕ) where
  upward : pos 0 ≤ℤ n → P (pos (unsigned_abs n)) (pos (rounded_size m (unsigned_abs n) d)) → P n (with_minus (int_lt n (pos 0)) (rounded_size m (unsigned_abs n) d))
  upward h p = subst (λ y. P n y) (signed_up n _ h) (subst (λ z. P z (pos (rounded_size m (unsigned_abs n) d))) (size_up n h) p)

  downward : 0 < d → n ≤ℤ pos 0 → P (neg_ℤ (pos (unsigned_abs n))) (neg_ℤ (pos (rounded_size m (unsigned_abs n) d))) → P n (with_minus (int_lt n (pos 0)) (rounded_size m (unsigned_abs n) d))
  downward dp h p = subst (λ y. P n y) (signed_down n _ h (rounded_below m (unsigned_abs n) d dp)) (subst (λ z. P z (neg_ℤ (pos (rounded_size m (unsigned_abs n) d)))) (size_down n h) p)

near : (n : ℤ) (d : ℕ) → 0 < d → IsNearest n d (with_minus (int_lt n (pos 0)) (rounded_size HalfAway (unsigned_abs n) d))
near (pos n) d dp = upward (λ z y. IsNearest z d y) HalfAway (pos n) d (omega (arith, ints)) (nearest_half n d dp)
near (negsuc n) d dp = downward (λ z y. IsNearest z d y) HalfAway (negsuc n) d dp (omega (arith, ints)) (turned_near _ _ d (nearest_half (suc n) d dp))

pub is_rounded : (x : Number) → IsRounded x
is_rounded x =
    let d = x.den in
    let dp = x.is_number.above_zero in
    let n = unsigned_abs x.num in
    record {
      whole = λ m. ap (λ (y : Number). y.den) (rounded_is m x);
      nearest = to HalfAway (λ y. IsNearest x.num d y) (near x.num d dp);
      away_upward = λ h. to Away (λ y. IsLeastNotBelow x.num d y) (upward (λ z y. IsLeastNotBelow z d y) Away x.num d h (least_away n d dp));
      away_downward = λ h. to Away (λ y. IsGreatestNotAbove x.num d y) (downward (λ z y. IsGreatestNotAbove z d y) Away x.num d dp h (turned_down _ _ d (least_away n d dp)));
      toward_downward = λ h. to Toward (λ y. IsGreatestNotAbove x.num d y) (upward (λ z y. IsGreatestNotAbove z d y) Toward x.num d h (floor_is (pos n) d dp));
      toward_upward = λ h. to Toward (λ y. IsLeastNotBelow x.num d y) (downward (λ z y. IsLeastNotBelow z d y) Toward x.num d dp h (turned_up _ _ d (floor_is (pos n) d dp)));
    }
  where
    to : (m : Mode) (P : ℤ → Type 0) → P (with_minus (int_lt x.num (pos 0)) (rounded_size m (unsigned_abs x.num) x.den)) → P (rounded m x).num
    to m P h = subst (λ (y : Number). P y.num) (sym (rounded_is m x)) h
