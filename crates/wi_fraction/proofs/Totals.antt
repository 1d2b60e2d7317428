-- A sum over a denominator that needn't be the least: where its parts aren't too large, those of the sum in lowest terms aren't either.
use Rattle.wi_fraction.proofs.Vocabulary.{◌≡◌, ℕ, zero, suc, ◌*◌, ◌/◌, ◌%◌, ◌^◌, ◌<◌, ◌≤◌, ℤ, pos, ◌+ℤ◌, ◌*ℤ◌, unsigned_abs, int_div, int_lt, Option, Some, None, unwrap_or, refl, ◌∣◌, sym, ap, ◌∙◌, subst, arith, nat_tests, mul_comm, mul_right_comm, div-mul_cancel, div_self, div-le_self, dvd_refl, dvd-mul_left, dvd-mul_right, dvd_of_mul-dvd-mul_right, mul-dvd-mul_right, pos_of_dvd_of_pos, gcd, is_gcd, dvd_of_dvd-mul, dvd_of_mod-eq-zero, unsigned_abs-mul, with_minus, Number, number_of, max_size, number_at-some, number_at-is, bounded, int_bounded, sum_of, mul-mul, turn, AreParts, number_over}
use Rattle.std.specs.Prelude.{IfSome}
use Rattle.wi_fraction.specs.Inner.Totals.{IsSumOver, zero_is}
use Rattle.wi_fraction.proofs.Divisors.{gcd_pos, div_gcd_pos, coprime_divided, divided_dvd_second}
use Rattle.wi_fraction.proofs.Steps.{mul-one-int, sum_from_steps, with_minus-abs}
use Rattle.wi_fraction.proofs.Values.{abs-div, add-mul, dvd_lcm, number_by_value, same_from_mul, value_of}

-- n/d is a number, where neither part is too large
pub number_of-over : (n : ℤ) (d : ℕ) → AreParts n d → number_of n d ≡ Some (number_over n d)
unfolding number_of number_over
number_of-over n d p =
    let g = gcd (unsigned_abs n) d in
    let top = int_div n (pos g) in
    let low = d / g in
    let size : unsigned_abs top ≡ unsigned_abs n / g = abs-div n g in
    let z : Number = record {
      num = top;
      den = low;
      is_number = record {
        above_zero = div_gcd_pos (unsigned_abs n) d p.above_zero;
        lowest = ap (λ k. gcd k low) size ∙ coprime_divided (unsigned_abs n) d p.above_zero;
        num_fits = omega (arith, size, div-le_self (unsigned_abs n) g, p.num_fits);
        den_fits = omega (arith, div-le_self d g, p.den_fits);
      };
    } in
    let is : number_of n d ≡ Some z = number_at-some top low z refl refl in
    is ∙ ap Some (sym (ap (λ (o : Option Number). unwrap_or o (record { num = pos 0; den = 1; is_number = zero_is })) is))

-- its denominator divides d
den_divides : (n : ℤ) (d : ℕ) (z : Number) → number_of n d ≡ Some z → z.den ∣ d
unfolding number_of
den_divides n d z e = subst (λ k. k ∣ d) (sym (number_at-is _ _ z e).1) (divided_dvd_second (unsigned_abs n) d)

-- the least common multiple divides each common one
lcm_dvd : (b e m : ℕ) → 0 < e → b ∣ m → e ∣ m → b / gcd b e * e ∣ m
lcm_dvd b e m ep hb he =
    let g = gcd b e in
    let i = is_gcd b e in
    let q = m / e in
    let m_is : q * e ≡ m = div-mul_cancel e he in
    let e_is : e / g * g ≡ e = div-mul_cancel g i.1 in
    let b_is : b / g * g ≡ b = div-mul_cancel g i.0 in
    let again : m ≡ e / g * q * g = sym m_is ∙ ap (λ n. q * n) (sym e_is) ∙ mul_comm q (e / g * g) ∙ mul_right_comm (e / g) g q in
    let over : b / g * g ∣ e / g * q * g = subst (λ n. n ∣ e / g * q * g) (sym b_is) (subst (λ n. b ∣ n) again hb) in
    let down : b / g ∣ e / g * q = dvd_of_mul-dvd-mul_right _ (gcd_pos b e ep) over in
    let to_q : b / g ∣ q = dvd_of_dvd-mul (b / g) (e / g) q (coprime_divided b e ep) down in
    subst (λ n. b / g * e ∣ n) m_is (mul-dvd-mul_right (b / g) to_q e)

grows : (n k : ℕ) → 0 < k → n ≤ n * k
grows n zero h = absurd (omega (arith, h))
grows n (suc k) h = omega arith

-- a part of which a multiple isn't too large isn't either
part_fits : (p q : ℤ) (k : ℕ) → 0 < k → p *ℤ pos k ≡ q → unsigned_abs q ≤ max_size → unsigned_abs p ≤ max_size
part_fits p q k some e h =
    let same : unsigned_abs p * k ≡ unsigned_abs q = sym (unsigned_abs-mul p (pos k)) ∙ ap unsigned_abs e in
    omega (arith, grows (unsigned_abs p) k some, same, h)

-- a numerator over one multiple, times what that lacks to another
scaled_on : (q : ℤ) (b L k d : ℕ) → b ∣ L → L * k ≡ d → q *ℤ pos (L / b) *ℤ pos k *ℤ pos b ≡ q *ℤ pos d
scaled_on q b L k d h e =
    let all : L / b * k * b ≡ d = mul_right_comm (L / b) k b ∙ ap (λ n. n * k) (div-mul_cancel b h) ∙ e in
    ap (λ z. z *ℤ pos b) (mul-mul q (L / b) k) ∙ mul-mul q (L / b * k) b ∙ ap (λ n. q *ℤ pos n) all

int_bounded-some : (z m : ℤ) → Some m ≡ int_bounded z → (m ≡ z) × (unsigned_abs z ≤ max_size)
int_bounded-some z m e = (grind (arith, nat_tests), grind (arith, nat_tests))

int_bounded-from : (z : ℤ) → unsigned_abs z ≤ max_size → Some z ≡ int_bounded z
int_bounded-from z h = grind (arith, nat_tests, h)

bounded-from : (n : ℕ) → n ≤ max_size → Some n ≡ bounded n
bounded-from n h = grind (arith, nat_tests, h)

-- a sum over a common multiple of the denominators
sum_over : (n : ℤ) (d : ℕ) (y : Number) (m : ℤ) → AreParts n d → AreParts m d → y.den ∣ d → unsigned_abs (y.num *ℤ pos (d / y.den)) ≤ max_size → m ≡ n +ℤ y.num *ℤ pos (d / y.den) → sum_of (number_over n d) y ≡ Some (number_over m d)
sum_over n d y m np mp divides fits is =
    let x = number_over n d in
    let z = number_over m d in
    let b = x.den in
    let e = y.den in
    let L = b / gcd b e * e in
    let k = d / L in
    let bp = x.is_number.above_zero in
    let ep = y.is_number.above_zero in
    let x_is = number_of-over n d np in
    let to_d : L ∣ d = lcm_dvd b e d ep (den_divides n d x x_is) divides in
    let k_is : k * L ≡ d = div-mul_cancel L to_d in
    let L_is : L * k ≡ d = mul_comm L k ∙ k_is in
    let kp : 0 < k = pos_of_dvd_of_pos (subst (λ v. k ∣ v) k_is (dvd-mul_right k L)) np.above_zero in
    let Lp : 0 < L = pos_of_dvd_of_pos to_d np.above_zero in
    let f = x.num *ℤ pos (L / b) in
    let s = y.num *ℤ pos (L / e) in
    let c = y.num *ℤ pos (d / e) in
    let first : f *ℤ pos k ≡ n = same_from_mul _ _ b bp (scaled_on x.num b L k d (dvd_lcm b e) L_is ∙ sym (value_of n d x x_is)) in
    let c_is : c *ℤ pos e ≡ y.num *ℤ pos d = mul-mul y.num (d / e) e ∙ ap (λ v. y.num *ℤ pos v) (div-mul_cancel e divides) in
    let second : s *ℤ pos k ≡ c = same_from_mul _ _ e ep (scaled_on y.num e L k d (dvd-mul_left e (b / gcd b e)) L_is ∙ sym c_is) in
    let both : (f +ℤ s) *ℤ pos k ≡ m = add-mul f s k ∙ ap (λ v. v +ℤ s *ℤ pos k) first ∙ ap (λ v. n +ℤ v) second ∙ sym is in
    let small : L ≤ max_size = omega (arith, grows L k kp, L_is, np.den_fits) in
    let value : (f +ℤ s) *ℤ pos z.den *ℤ pos k ≡ z.num *ℤ pos L *ℤ pos k =
    turn (f +ℤ s) z.den k ∙ ap (λ v. v *ℤ pos z.den) both ∙ value_of m d z (number_of-over m d mp) ∙ ap (λ v. z.num *ℤ pos v) (sym L_is) ∙ sym (mul-mul z.num L k) in
    sym (sum_from_steps x y L f s (f +ℤ s) (Some z)
    (bounded-from L small)
    (int_bounded-from f (part_fits f n k kp first np.num_fits))
    (int_bounded-from s (part_fits s c k kp second fits))
    (int_bounded-from (f +ℤ s) (part_fits (f +ℤ s) m k kp both mp.num_fits))
    (sym (number_by_value (f +ℤ s) L z Lp (same_from_mul _ _ k kp value))))

sum_with_parts : (n : ℤ) (d : ℕ) (y : Number) (m : ℤ) → AreParts n d → y.den ∣ d → unsigned_abs (y.num *ℤ pos (d / y.den)) ≤ max_size → m ≡ n +ℤ y.num *ℤ pos (d / y.den) → unsigned_abs m ≤ max_size → IsSumOver n d y m
sum_with_parts n d y m p divides fits is small =
    let parts : AreParts m d = record { above_zero = p.above_zero; num_fits = small; den_fits = p.den_fits } in
    record { parts = parts; sum = sum_over n d y m p parts divides fits is }

-- so is what the code makes of the number's parts, where it makes something
pub scaled_sum : (n : ℤ) (d : ℕ) (y x : Number) (rest q : ℕ) (c : ℤ) (o : Option ℤ) → AreParts n d → x ≡ y → rest ≡ d % x.den → rest ≡ 0 → q ≡ d / x.den → Some c ≡ int_bounded (x.num *ℤ pos q) → o ≡ int_bounded (n +ℤ c) → IfSome o (IsSumOver n d y)
scaled_sum n d y x rest q c None p same r none e ce oe = tt
scaled_sum n d y x rest q c (Some m) p same r none e ce oe =
    let cw = int_bounded-some _ c ce in
    let mw = int_bounded-some _ m oe in
    let divides : x.den ∣ d = dvd_of_mod-eq-zero _ (sym r ∙ none) in
    let c_is : c ≡ x.num *ℤ pos (d / x.den) = cw.0 ∙ ap (λ k. x.num *ℤ pos k) e in
    let fits : unsigned_abs (x.num *ℤ pos (d / x.den)) ≤ max_size = subst (λ k. unsigned_abs (x.num *ℤ pos k) ≤ max_size) e cw.1 in
    subst (λ (z : Number). IsSumOver n d z m) same (sum_with_parts n d x m p divides fits (mw.0 ∙ ap (λ v. n +ℤ v) c_is) (subst (λ v. unsigned_abs v ≤ max_size) (sym mw.0) mw.1))

-- and of small ones
pub small_scaled : (n : ℤ) (d : ℕ) (y x : Number) (q : ℕ) (c : ℤ) (o : Option ℤ) → AreParts n d → x ≡ y → q ≡ d / x.den → d % x.den ≡ 0 → c ≡ x.num *ℤ pos q → unsigned_abs c ≤ 2 ^ 126 → IfSome o (λ m. Some m ≡ int_bounded (n +ℤ c)) → IfSome o (IsSumOver n d y)
small_scaled n d y x q c None p same e none is small oe = tt
small_scaled n d y x q c (Some m) p same e none is small oe =
    let fits : unsigned_abs c ≤ max_size = omega (arith, small) in
    scaled_sum n d y x (d % x.den) q c (Some m) p same refl none e (subst (λ z. Some c ≡ int_bounded z) is (int_bounded-from c fits)) oe

pub like_sum : (n : ℤ) (d : ℕ) (y x : Number) (o : Option ℤ) → AreParts n d → x ≡ y → x.den ≡ d → o ≡ int_bounded (n +ℤ x.num) → IfSome o (IsSumOver n d y)
like_sum n d y x None p same e oe = tt
like_sum n d y x (Some m) p same e oe =
    let mw = int_bounded-some _ m oe in
    let itself : x.num *ℤ pos (d / x.den) ≡ x.num = ap (λ v. x.num *ℤ pos (v / x.den)) (sym e) ∙ ap (λ v. x.num *ℤ pos v) (div_self x.is_number.above_zero) ∙ mul-one-int x.num in
    subst (λ (z : Number). IsSumOver n d z m) same
    (sum_with_parts n d x m p (subst (λ v. x.den ∣ v) e (dvd_refl x.den)) (subst (λ v. unsigned_abs v ≤ max_size) (sym itself) x.is_number.num_fits) (mw.0 ∙ ap (λ v. n +ℤ v) (sym itself)) (subst (λ v. unsigned_abs v ≤ max_size) (sym mw.0) mw.1))

-- and where that is promised of some alone
pub small_like_sum : (n : ℤ) (d : ℕ) (y x : Number) (o : Option ℤ) → AreParts n d → x ≡ y → x.den ≡ d → IfSome o (λ m. Some m ≡ int_bounded (n +ℤ x.num)) → IfSome o (IsSumOver n d y)
small_like_sum n d y x None p same e oe = tt
small_like_sum n d y x (Some m) p same e oe = like_sum n d y x (Some m) p same e oe

-- a number by its own parts
pub own_parts : (x : Number) (n : ℤ) (d : ℕ) → n ≡ x.num → d ≡ x.den → number_over n d ≡ x
unfolding number_over
own_parts x n d e f = ap (λ (o : Option Number). unwrap_or o (record { num = pos 0; den = 1; is_number = zero_is })) (number_by_value n d x (subst (λ k. 0 < k) (sym f) x.is_number.above_zero) (ap (λ z. z *ℤ pos x.den) e ∙ ap (λ k. x.num *ℤ pos k) (sym f)))

-- the number that is told
pub told : (n : ℤ) (d : ℕ) (o : Option Number) (z w : Number) → AreParts n d → o ≡ number_of (with_minus (int_lt n (pos 0)) (unsigned_abs n)) d → w ≡ unwrap_or o z → w ≡ number_over n d
told n d o z w p e f =
    f ∙ ap (λ (r : Option Number). unwrap_or r z) (e ∙ ap (λ k. number_of k d) (with_minus-abs n) ∙ number_of-over n d p)
