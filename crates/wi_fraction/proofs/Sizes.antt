-- The order of two fractions by whole parts and rests.
use Rattle.wi_fraction.proofs.Vocabulary.{◌≡◌, ◌≢◌, ◌⊎◌, ℕ, ◌+◌, ◌*◌, ◌/◌, ◌%◌, ◌<◌, ◌≤◌, ℤ, pos, ◌*ℤ◌, ◌<ℤ◌, refl, Ordering, Less, Equal, Greater, nat_cmp, int_cmp, MatchOrdering, ranks, nat_cmp_is, int_ranks, int_cmp_is, sym, ap, ◌∙◌, subst, arith, inl, inr, add-mul, mul_assoc, mul_comm, mul_right_comm, div-add-mod', lt-div-mul-add, div-mul-le_self, mul-lt-mul_of_pos_right, mul-le-mul_right, mul-pos, zero-mul, one-mul, Number, cross_cmp, mul_below}

module _ (x y u v : ℕ) where
  carried : (x < y → u < v) → (x ≡ y → u ≡ v) → (y < x → v < u) → (r : Ordering) → MatchOrdering r (x < y) (x ≡ y) (y < x) → MatchOrdering r (u < v) (u ≡ v) (v < u)
  carried f g h Less m = f m
  carried f g h Equal m = g m
  carried f g h Greater m = h m

  -- two pairs of numbers that stand in one order
  pub same_nat_cmp : (x < y → u < v) → (x ≡ y → u ≡ v) → (y < x → v < u) → nat_cmp x y ≡ nat_cmp u v
  same_nat_cmp f g h = nat_cmp_is u v (nat_cmp x y) (carried f g h (nat_cmp x y) (ranks x y))

-- a smaller whole part makes a smaller fraction
below_by_whole : (a b c d : ℕ) → 0 < b → 0 < d → a / b < c / d → a * d < c * b
below_by_whole a b c d bp dp h =
    let step : a < (a / b + 1) * b = rw (add-mul (a / b) 1 b, one-mul b) (lt-div-mul-add bp) in
    let low : a * d < (a / b + 1) * b * d = mul-lt-mul_of_pos_right step dp in
    let up : (a / b + 1) * b * d ≤ c / d * b * d = mul-le-mul_right d (mul-le-mul_right b (omega arith)) in
    let top : c / d * d * b ≤ c * b = mul-le-mul_right b (div-mul-le_self c d) in
    omega (arith, low, up, top, mul_right_comm (c / d) b d)

split : (a b d : ℕ) → a * d ≡ a / b * (b * d) + a % b * d
split a b d = ap (λ n. n * d) (sym (div-add-mod' a b)) ∙ add-mul (a / b * b) (a % b) d ∙ ap (λ n. n + a % b * d) (mul_assoc (a / b) b d)

split_other : (c d b : ℕ) → c * b ≡ c / d * (b * d) + c % d * b
split_other c d b = split c d b ∙ ap (λ n. c / d * n + c % d * b) (mul_comm d b)

pub cmp_by_whole : (a b c d : ℕ) → 0 < b → 0 < d → (o : Ordering) → o ≡ nat_cmp (a / b) (c / d) → o ≢ Equal → o ≡ nat_cmp (a * d) (c * b)
cmp_by_whole a b c d bp dp o e ne = nat_cmp_is (a * d) (c * b) o (by_case o (subst (λ r. MatchOrdering r (a / b < c / d) (a / b ≡ c / d) (c / d < a / b)) (sym e) (ranks (a / b) (c / d))) ne)
  where
    by_case : (r : Ordering) → MatchOrdering r (a / b < c / d) (a / b ≡ c / d) (c / d < a / b) → r ≢ Equal → MatchOrdering r (a * d < c * b) (a * d ≡ c * b) (c * b < a * d)
    by_case Less m n = below_by_whole a b c d bp dp m
    by_case Equal m n = absurd (n refl)
    by_case Greater m n = below_by_whole c d a b dp bp m

same_whole : (a b c d : ℕ) → Equal ≡ nat_cmp (a / b) (c / d) → a / b ≡ c / d
same_whole a b c d e = subst (λ r. MatchOrdering r (a / b < c / d) (a / b ≡ c / d) (c / d < a / b)) (sym e) (ranks (a / b) (c / d))

-- of one whole part, the rests decide
pub cmp_by_rest : (a b c d : ℕ) → Equal ≡ nat_cmp (a / b) (c / d) → nat_cmp (a % b * d) (c % d * b) ≡ nat_cmp (a * d) (c * b)
cmp_by_rest a b c d e =
    let w = same_whole a b c d e in
    let f = split a b d in
    let g : c * b ≡ a / b * (b * d) + c % d * b = split_other c d b ∙ ap (λ n. n * (b * d) + c % d * b) (sym w) in
    same_nat_cmp (a % b * d) (c % d * b) (a * d) (c * b) (λ h. omega arith) (λ h. omega arith) (λ h. omega arith)

-- a rest of zero is the least
pub cmp_at_zero : (r s b d : ℕ) → 0 < b → 0 < d → (r ≡ 0) ⊎ (s ≡ 0) → nat_cmp r s ≡ nat_cmp (r * d) (s * b)
cmp_at_zero r s b d bp dp (inl z) =
    same_nat_cmp r s (r * d) (s * b) (λ h. rw z (rw zero-mul (mul-pos (omega arith) bp))) (λ h. rw (sym h, z) (rw (zero-mul, zero-mul))) (λ h. absurd (omega arith))
cmp_at_zero r s b d bp dp (inr z) =
    same_nat_cmp r s (r * d) (s * b) (λ h. absurd (omega arith)) (λ h. rw (h, z) (rw (zero-mul, zero-mul))) (λ h. rw z (rw zero-mul (mul-pos (omega arith) dp)))

-- ---- like denominators

same_int_cmp : (p q : ℤ) (k : ℕ) → 0 < k → int_cmp p q ≡ int_cmp (p *ℤ pos k) (q *ℤ pos k)
same_int_cmp p q k some = int_cmp_is (p *ℤ pos k) (q *ℤ pos k) (int_cmp p q) (by_case (int_cmp p q) (int_ranks p q))
  where
    by_case : (o : Ordering) → MatchOrdering o (p <ℤ q) (p ≡ q) (q <ℤ p) → MatchOrdering o ((p *ℤ pos k) <ℤ (q *ℤ pos k)) (p *ℤ pos k ≡ q *ℤ pos k) ((q *ℤ pos k) <ℤ (p *ℤ pos k))
    by_case Less m = mul_below p q k some m
    by_case Equal m = ap (λ z. z *ℤ pos k) m
    by_case Greater m = mul_below q p k some m

-- numbers with one denominator are in the order of their numerators
pub like_cmp : (x y : Number) → x.den ≡ y.den → int_cmp x.num y.num ≡ cross_cmp x y
like_cmp x y same = same_int_cmp x.num y.num x.den x.is_number.above_zero ∙ ap (λ d. int_cmp (x.num *ℤ pos d) (y.num *ℤ pos x.den)) same
