-- What the results are worth: they have the value of the exact operation.
use Rattle.wi_fraction.proofs.Vocabulary.{◌≡◌, IfOk, Result, ok_or, ℕ, zero, suc, ◌*◌, ◌/◌, ◌<◌, ℤ, pos, negsuc, ◌+ℤ◌, ◌-ℤ◌, ◌*ℤ◌, neg_ℤ, unsigned_abs, int_div, Option, Some, None, refl, ◌∣◌, sym, ap, ◌∙◌, subst, arith, ints, mul_comm, mul_assoc, div-mul_cancel, dvd-mul_left, dvd-mul_right, Bool, true, false, cond, nat_le, option_and_then, ◌<ℤ◌, int_cmp, int_ranks, gcd, is_gcd, unsigned_abs-mul, same_lowest, IsExact, Number, number_of, max_size, number_at-some, number_at-is, negated, bounded, int_bounded, sum_by_steps, sum_of, product_of, quotient_of, fraction_of, mul-mul, neg-pos-mul, mul_below, int_irrefl, by_rank, turn}
use Rattle.wi_fraction.proofs.Divisors.{gcd_pos, div_gcd_pos, coprime_divided}
use Rattle.wi_fraction.proofs.NearWholes.{opposite, negated_is}
use Rattle.wi_fraction.proofs.Numbers.{abs-with_minus}
use Rattle.wi_fraction.proofs.Steps.{bounded-some, multiple_pos, sum_steps}

mul-suc : (z : ℤ) (k : ℕ) → z *ℤ pos (suc k) ≡ z *ℤ pos k +ℤ z
mul-suc (pos a) k = omega (arith, ints)
mul-suc (negsuc a) k = omega (arith, ints)

pub mul-none : (z : ℤ) → z *ℤ pos 0 ≡ pos 0
mul-none (pos a) = omega (arith, ints)
mul-none (negsuc a) = omega (arith, ints)

-- a product over a sum
pub add-mul : (p q : ℤ) (k : ℕ) → (p +ℤ q) *ℤ pos k ≡ p *ℤ pos k +ℤ q *ℤ pos k
add-mul p q zero = omega (arith, ints, mul-none (p +ℤ q), mul-none p, mul-none q)
add-mul p q (suc k) = omega (arith, ints, mul-suc (p +ℤ q) k, mul-suc p k, mul-suc q k, add-mul p q k)

pub abs-div : (n : ℤ) (g : ℕ) → unsigned_abs (int_div n (pos g)) ≡ unsigned_abs n / g
abs-div (pos a) g = refl
abs-div (negsuc a) g = abs-with_minus true (suc a / g)

divided : (n : ℤ) (g : ℕ) → g ∣ unsigned_abs n → int_div n (pos g) *ℤ pos g ≡ n
divided (pos a) g h = ap pos (div-mul_cancel g h)
divided (negsuc a) g h = neg-pos-mul (suc a / g) g ∙ ap (λ k. neg_ℤ (pos k)) (div-mul_cancel g h)

-- n/d has the value of its lowest terms
pub value_of : (n : ℤ) (d : ℕ) (z : Number) → number_of n d ≡ Some z → n *ℤ pos z.den ≡ z.num *ℤ pos d
unfolding number_of
value_of n d z e =
    let i = is_gcd (unsigned_abs n) d in
    let w = number_at-is _ _ z e in
    let den_is : gcd (unsigned_abs n) d * z.den ≡ d = ap (λ k. gcd (unsigned_abs n) d * k) w.1 ∙ mul_comm _ _ ∙ div-mul_cancel (gcd (unsigned_abs n) d) i.1 in
    let num_is : z.num *ℤ pos (gcd (unsigned_abs n) d) ≡ n = ap (λ k. k *ℤ pos (gcd (unsigned_abs n) d)) w.0 ∙ divided n (gcd (unsigned_abs n) d) i.0 in
    sym (ap (λ k. k *ℤ pos z.den) num_is) ∙ mul-mul z.num (gcd (unsigned_abs n) d) z.den ∙ ap (λ k. z.num *ℤ pos k) den_is

bounded-is : (m n : ℕ) → bounded n ≡ Some m → m ≡ n
bounded-is m n e = (bounded-some n m (sym e)).0

pub same_from_mul : (p q : ℤ) (k : ℕ) → 0 < k → p *ℤ pos k ≡ q *ℤ pos k → p ≡ q
same_from_mul p q k some e =
    by_rank p q (p ≡ q) (int_cmp p q) (int_ranks p q)
    (λ l. absurd (int_irrefl (q *ℤ pos k) (subst (λ v. v <ℤ (q *ℤ pos k)) e (mul_below p q k some l))))
    (λ s. s)
    (λ l. absurd (int_irrefl (q *ℤ pos k) (subst (λ v. (q *ℤ pos k) <ℤ v) e (mul_below q p k some l))))

pub then_some : {A B : Type 0} (o : Option A) (f : A → Option B) (z : B) → option_and_then f o ≡ Some z → (a : A) × (o ≡ Some a) × (f a ≡ Some z)
then_some None f z e = cc
then_some (Some a) f z e = (a, refl, e)

int_bounded-is : (m n : ℤ) → int_bounded n ≡ Some m → m ≡ n
int_bounded-is m n e = by_test (nat_le (unsigned_abs n) max_size) e
  where
    by_test : (b : Bool) → cond b (Some n) None ≡ Some m → m ≡ n
    by_test true e = cc
    by_test false e = cc

-- one scaled numerator
scaled_part : (a : ℤ) (b d L : ℕ) → b ∣ L → a *ℤ pos d *ℤ pos L ≡ a *ℤ pos (L / b) *ℤ pos (b * d)
scaled_part a b d L h =
    let e : d * L ≡ L / b * (b * d) = mul_comm d L ∙ ap (λ n. n * d) (sym (div-mul_cancel b h)) ∙ mul_assoc (L / b) b d in
    mul-mul a d L ∙ ap (λ n. a *ℤ pos n) e ∙ sym (mul-mul a (L / b) (b * d))

over_multiple : (a c total u : ℤ) (b d L v : ℕ) → 0 < L → b ∣ L → d ∣ L → total ≡ a *ℤ pos (L / b) +ℤ c *ℤ pos (L / d) → total *ℤ pos v ≡ u *ℤ pos L → (a *ℤ pos d +ℤ c *ℤ pos b) *ℤ pos v ≡ u *ℤ pos (b * d)
over_multiple a c total u b d L v some hb hd t e =
    let second : c *ℤ pos b *ℤ pos L ≡ c *ℤ pos (L / d) *ℤ pos (b * d) = scaled_part c d b L hd ∙ ap (λ n. c *ℤ pos (L / d) *ℤ pos n) (mul_comm d b) in
    let both : (a *ℤ pos d +ℤ c *ℤ pos b) *ℤ pos L ≡ total *ℤ pos (b * d) =
    add-mul (a *ℤ pos d) (c *ℤ pos b) L ∙ ap (λ n. n +ℤ c *ℤ pos b *ℤ pos L) (scaled_part a b d L hb) ∙ ap (λ n. a *ℤ pos (L / b) *ℤ pos (b * d) +ℤ n) second ∙ sym (add-mul (a *ℤ pos (L / b)) (c *ℤ pos (L / d)) (b * d)) ∙ ap (λ n. n *ℤ pos (b * d)) (sym t) in
    same_from_mul _ _ L some
    (turn (a *ℤ pos d +ℤ c *ℤ pos b) v L ∙ ap (λ n. n *ℤ pos v) both ∙ turn total (b * d) v ∙ ap (λ n. n *ℤ pos (b * d)) e ∙ turn u L (b * d))

pub dvd_lcm : (b d : ℕ) → b ∣ b / gcd b d * d
dvd_lcm b d =
    let i = is_gcd b d in
    let e : b / gcd b d * d ≡ b * (d / gcd b d) = ap (λ n. b / gcd b d * n) (sym (div-mul_cancel (gcd b d) i.1) ∙ mul_comm (d / gcd b d) (gcd b d)) ∙ sym (mul_assoc (b / gcd b d) (gcd b d) (d / gcd b d)) ∙ ap (λ n. n * (d / gcd b d)) (div-mul_cancel (gcd b d) i.0) in
    subst (λ n. b ∣ n) (sym e) (dvd-mul_right b (d / gcd b d))

-- a sum has the value of the exact sum
pub sum_value : (x y z : Number) → sum_of x y ≡ Some z → (x.num *ℤ pos y.den +ℤ y.num *ℤ pos x.den) *ℤ pos z.den ≡ z.num *ℤ pos (x.den * y.den)
unfolding sum_by_steps
sum_value x y z is =
    let e : sum_by_steps x y ≡ Some z = sum_steps x y ∙ is in
    let b = x.den in
    let d = y.den in
    let s1 = then_some _ _ z e in
    let s2 = then_some _ _ z s1.2 in
    let s3 = then_some _ _ z s2.2 in
    let s4 = then_some _ _ z s3.2 in
    let L_is = bounded-is s1.0 _ s1.1 in
    let g = is_gcd x.den y.den in
    let to_b : x.den ∣ s1.0 = subst (λ n. x.den ∣ n) (sym L_is) (dvd_lcm x.den y.den) in
    let to_d : y.den ∣ s1.0 = subst (λ n. y.den ∣ n) (sym L_is) (dvd-mul_left y.den (x.den / gcd x.den y.den)) in
    let some : 0 < s1.0 = multiple_pos x.den y.den _ s1.0 refl x.is_number.above_zero y.is_number.above_zero (sym s1.1) in
    let total_is : s4.0 ≡ x.num *ℤ pos (s1.0 / x.den) +ℤ y.num *ℤ pos (s1.0 / y.den) = int_bounded-is s4.0 _ s4.1 ∙ ap (λ n. n +ℤ s3.0) (int_bounded-is s2.0 _ s2.1) ∙ ap (λ n. x.num *ℤ pos (s1.0 / x.den) +ℤ n) (int_bounded-is s3.0 _ s3.1) in
    over_multiple x.num y.num s4.0 z.num x.den y.den s1.0 z.den some to_b to_d total_is (value_of s4.0 s1.0 z s4.2)

-- a product has the value of the exact product
pub product_value : (x y z : Number) → product_of x y ≡ Some z → (x.num *ℤ y.num) *ℤ pos z.den ≡ z.num *ℤ pos (x.den * y.den)
product_value x y z e = value_of (x.num *ℤ y.num) (x.den * y.den) z e

pub neg-neg : (z : ℤ) → neg_ℤ (neg_ℤ z) ≡ z
neg-neg (pos zero) = refl
neg-neg (pos (suc n)) = refl
neg-neg (negsuc n) = refl

pub neg-mul : (n : ℤ) (k : ℕ) → neg_ℤ n *ℤ pos k ≡ neg_ℤ (n *ℤ pos k)
neg-mul (pos n) k = neg-pos-mul n k
neg-mul (negsuc n) k = sym (neg-neg (pos (suc n * k)))

mul-negsuc : (u : ℤ) (k : ℕ) → u *ℤ negsuc k ≡ neg_ℤ (u *ℤ pos (suc k))
mul-negsuc (pos n) k = refl
mul-negsuc (negsuc n) k = sym (neg-neg (pos (suc n * suc k)))

-- an equation of products where two factors change their sign
both_turned : (n u : ℤ) (v k : ℕ) → neg_ℤ n *ℤ pos v ≡ u *ℤ pos (suc k) → n *ℤ pos v ≡ u *ℤ negsuc k
both_turned n u v k e = sym (neg-neg (n *ℤ pos v)) ∙ ap neg_ℤ (sym (neg-mul n v) ∙ e) ∙ sym (mul-negsuc u k)

-- a fraction with a denominator of either sign
fraction_value : (n d : ℤ) (z : Number) → fraction_of n d ≡ Some z → n *ℤ pos z.den ≡ z.num *ℤ d
fraction_value n (pos d) z e = value_of n d z e
fraction_value n (negsuc d) z e = both_turned n z.num z.den d (value_of (neg_ℤ n) (suc d) z e)

-- a quotient has the value of the exact quotient
pub quotient_value : (x y z : Number) → quotient_of x y ≡ Some z → (x.num *ℤ pos y.den) *ℤ pos z.den ≡ z.num *ℤ (pos x.den *ℤ y.num)
quotient_value x y z e = fraction_value (x.num *ℤ pos y.den) (pos x.den *ℤ y.num) z e

-- a difference has the value of the exact difference
pub difference_value : (x y z : Number) → sum_of x (negated y) ≡ Some z → (x.num *ℤ pos y.den -ℤ y.num *ℤ pos x.den) *ℤ pos z.den ≡ z.num *ℤ pos (x.den * y.den)
difference_value x y z e =
    ap (λ v. (x.num *ℤ pos y.den +ℤ v) *ℤ pos z.den) (sym (neg-mul y.num x.den))
    ∙ sum_value x (opposite y) z (ap (sum_of x) (sym (negated_is y)) ∙ e)

-- ---- a call that gives what an operation gives, or an error

-- with an equal operand it gives the same
pub sum_with : {E : Type 0} (x y z : Number) (e : E) (r : Result Number E) → r ≡ ok_or (sum_of x y) e → y ≡ z → r ≡ ok_or (sum_of x z) e
sum_with x y z e r is same = is ∙ ap (λ (w : Number). ok_or (sum_of x w) e) same

-- what is so of each value of the operation is so of its own
pub value_by : {E : Type 0} (o : Option Number) (e : E) (r : Result Number E) (P : Number → Type 0) → r ≡ ok_or o e → ((z : Number) → o ≡ Some z → P z) → IfOk r P
value_by {E} None e r P is f = subst (λ (s : Result Number E). IfOk s P) (sym is) tt
value_by {E} (Some z) e r P is f = subst (λ (s : Result Number E). IfOk s P) (sym is) (f z refl)

-- ---- the number that has a value

-- of two fractions of one value, the one in lowest terms and the number have the same parts
pub number_by_value : (n : ℤ) (d : ℕ) (z : Number) → 0 < d → n *ℤ pos z.den ≡ z.num *ℤ pos d → number_of n d ≡ Some z
unfolding number_of
number_by_value n d z dp e =
    let g = gcd (unsigned_abs n) d in
    let low = d / g in
    let top = int_div n (pos g) in
    let i = is_gcd (unsigned_abs n) d in
    let gp : 0 < g = gcd_pos (unsigned_abs n) d dp in
    let top_is : top *ℤ pos g ≡ n = divided n g i.0 in
    let low_is : low * g ≡ d = div-mul_cancel g i.1 in
    let scaled : top *ℤ pos z.den *ℤ pos g ≡ z.num *ℤ pos low *ℤ pos g = turn top z.den g ∙ ap (λ v. v *ℤ pos z.den) top_is ∙ e ∙ ap (λ v. z.num *ℤ pos v) (sym low_is) ∙ sym (mul-mul z.num low g) in
    let cross : top *ℤ pos z.den ≡ z.num *ℤ pos low = same_from_mul _ _ g gp scaled in
    let size_is : unsigned_abs top ≡ unsigned_abs n / g = abs-div n g in
    let sizes : unsigned_abs n / g * z.den ≡ unsigned_abs z.num * low = ap (λ v. v * z.den) (sym size_is) ∙ sym (unsigned_abs-mul top (pos z.den)) ∙ ap unsigned_abs cross ∙ unsigned_abs-mul z.num (pos low) in
    let p = z.is_number in
    let both = same_lowest (unsigned_abs n / g) low (unsigned_abs z.num) z.den (div_gcd_pos (unsigned_abs n) d dp) p.above_zero (coprime_divided (unsigned_abs n) d dp) p.lowest sizes in
    let again : top *ℤ pos z.den ≡ z.num *ℤ pos z.den = cross ∙ ap (λ v. z.num *ℤ pos v) both.1 in
    number_at-some top low z (sym (same_from_mul _ _ z.den p.above_zero again)) (sym both.1)

pub exact : IsExact
exact n d z dp = (value_of n d z, number_by_value n d z dp)
