-- What follows from the greatest common divisor: coprime numbers and lowest terms.
use Rattle.wi_fraction.proofs.Vocabulary.{◌≡◌, ℕ, ◌*◌, ◌/◌, ◌%◌, ◌<◌, refl, ◌∣◌, sym, ◌∙◌, ap, subst, mul_comm, one-mul, dvd-mul_right, dvd_trans, div-mul_cancel, pos_of_dvd_of_pos, eq-one_of_dvd-one, dvd_of_mul-dvd-mul_right, mul-dvd-mul_right, mul-mul-mul_comm, mul-pos, IsGcd-from_zero, IsGcd-from_mod, gcd, is_gcd, dvd_gcd_mul, gcd_from_IsGcd, gcd_comm, dvd_of_dvd-mul}

pub gcd_pos : (a b : ℕ) → 0 < b → 0 < gcd a b
gcd_pos a b h = pos_of_dvd_of_pos (is_gcd a b).1 h

pub gcd-zero : (a : ℕ) → gcd a 0 ≡ a
gcd-zero a = sym (gcd_from_IsGcd a 0 a (IsGcd-from_zero a 0 refl))

-- one step of Euclid's algorithm
pub gcd_step : (a b : ℕ) → gcd b (a % b) ≡ gcd a b
gcd_step a b = gcd_from_IsGcd a b _ (IsGcd-from_mod a b _ (is_gcd b (a % b)))

pub dvd_gcd : (d a b : ℕ) → d ∣ a → d ∣ b → d ∣ gcd a b
dvd_gcd d a b p q = (is_gcd a b).2 d p q

-- a divisor of a number that has no common divisor with b has none either
pub coprime_dvd : (d a b : ℕ) → d ∣ a → gcd a b ≡ 1 → gcd d b ≡ 1
coprime_dvd d a b p one =
    let i = is_gcd d b in
    eq-one_of_dvd-one (subst (λ n. gcd d b ∣ n) one (dvd_gcd (gcd d b) a b (dvd_trans (gcd d b) i.0 p) i.1))

pub coprime_mul : (a b c : ℕ) → gcd a b ≡ 1 → gcd a c ≡ 1 → gcd a (b * c) ≡ 1
coprime_mul a b c p q =
    let i = is_gcd a (b * c) in
    let first = coprime_dvd (gcd a (b * c)) a b i.0 p in
    let on_c : gcd a (b * c) ∣ c = dvd_of_dvd-mul _ b c first i.1 in
    eq-one_of_dvd-one (subst (λ n. gcd a (b * c) ∣ n) q (dvd_gcd _ a c i.0 on_c))

-- dividing by the greatest common divisor leaves no common divisor
pub coprime_divided : (a b : ℕ) → 0 < b → gcd (a / gcd a b) (b / gcd a b) ≡ 1
coprime_divided a b h =
    let i = is_gcd a b in
    let j = is_gcd (a / gcd a b) (b / gcd a b) in
    let up : gcd (a / gcd a b) (b / gcd a b) * gcd a b ∣ a = subst (λ n. gcd (a / gcd a b) (b / gcd a b) * gcd a b ∣ n) (div-mul_cancel (gcd a b) i.0) (mul-dvd-mul_right _ j.0 (gcd a b)) in
    let down : gcd (a / gcd a b) (b / gcd a b) * gcd a b ∣ b = subst (λ n. gcd (a / gcd a b) (b / gcd a b) * gcd a b ∣ n) (div-mul_cancel (gcd a b) i.1) (mul-dvd-mul_right _ j.1 (gcd a b)) in
    let all : gcd (a / gcd a b) (b / gcd a b) * gcd a b ∣ 1 * gcd a b = subst (λ n. gcd (a / gcd a b) (b / gcd a b) * gcd a b ∣ n) (sym (one-mul (gcd a b))) (dvd_gcd _ a b up down) in
    eq-one_of_dvd-one (dvd_of_mul-dvd-mul_right _ (gcd_pos a b h) all)

pub div_gcd_pos : (a b : ℕ) → 0 < b → 0 < b / gcd a b
div_gcd_pos a b h =
    let e = div-mul_cancel (gcd a b) (is_gcd a b).1 in
    let d : b / gcd a b ∣ b = subst (λ n. b / gcd a b ∣ n) e (dvd-mul_right (b / gcd a b) (gcd a b)) in
    pos_of_dvd_of_pos d h

pub gcd_scaled : (a b m : ℕ) → gcd (a * m) (b * m) ≡ gcd a b * m
gcd_scaled a b m =
    let i = is_gcd a b in
    sym (gcd_from_IsGcd (a * m) (b * m) (gcd a b * m) (mul-dvd-mul_right (gcd a b) i.0 m, mul-dvd-mul_right (gcd a b) i.1 m, λ d p q. dvd_gcd_mul d a b m p q))

pub divided_dvd : (a b : ℕ) → a / gcd a b ∣ a
divided_dvd a b = subst (λ n. a / gcd a b ∣ n) (div-mul_cancel (gcd a b) (is_gcd a b).0) (dvd-mul_right (a / gcd a b) (gcd a b))

pub divided_dvd_second : (a b : ℕ) → b / gcd a b ∣ b
divided_dvd_second a b = subst (λ n. b / gcd a b ∣ n) (div-mul_cancel (gcd a b) (is_gcd a b).1) (dvd-mul_right (b / gcd a b) (gcd a b))

-- of two fractions in lowest terms, each numerator may be cancelled against the other's denominator, and the product is in lowest terms
pub coprime_cross : (a b c d : ℕ) → 0 < b → 0 < d → gcd a b ≡ 1 → gcd c d ≡ 1 → gcd (a / gcd a d * (c / gcd c b)) (b / gcd c b * (d / gcd a d)) ≡ 1
coprime_cross a b c d bp dp p q =
    let a' = a / gcd a d in
    let c' = c / gcd c b in
    let b' = b / gcd c b in
    let d' = d / gcd a d in
    let ab : gcd a' b ≡ 1 = coprime_dvd a' a b (divided_dvd a d) p in
    let ba : gcd b' a' ≡ 1 = coprime_dvd b' b a' (divided_dvd_second c b) (gcd_comm b a' ∙ ab) in
    let bc : gcd b' c' ≡ 1 = gcd_comm b' c' ∙ coprime_divided c b bp in
    let da : gcd d' a' ≡ 1 = gcd_comm d' a' ∙ coprime_divided a d dp in
    let cd : gcd c' d ≡ 1 = coprime_dvd c' c d (divided_dvd c b) q in
    let dc : gcd d' c' ≡ 1 = coprime_dvd d' d c' (divided_dvd_second a d) (gcd_comm d c' ∙ cd) in
    let with_b : gcd (a' * c') b' ≡ 1 = gcd_comm (a' * c') b' ∙ coprime_mul b' a' c' ba bc in
    let with_d : gcd (a' * c') d' ≡ 1 = gcd_comm (a' * c') d' ∙ coprime_mul d' a' c' da dc in
    coprime_mul (a' * c') b' d' with_b with_d

pub cross_numerator : (a b c d : ℕ) → a * c ≡ a / gcd a d * (c / gcd c b) * (gcd a d * gcd c b)
cross_numerator a b c d = sym (mul-mul-mul_comm (a / gcd a d) (c / gcd c b) (gcd a d) (gcd c b) ∙ ap (λ n. n * (c / gcd c b * gcd c b)) (div-mul_cancel (gcd a d) (is_gcd a d).0) ∙ ap (λ n. a * n) (div-mul_cancel (gcd c b) (is_gcd c b).0))

pub cross_denominator : (a b c d : ℕ) → b * d ≡ b / gcd c b * (d / gcd a d) * (gcd a d * gcd c b)
cross_denominator a b c d = sym (ap (λ n. b / gcd c b * (d / gcd a d) * n) (mul_comm (gcd a d) (gcd c b)) ∙ mul-mul-mul_comm (b / gcd c b) (d / gcd a d) (gcd c b) (gcd a d) ∙ ap (λ n. n * (d / gcd a d * gcd a d)) (div-mul_cancel (gcd c b) (is_gcd c b).1) ∙ ap (λ n. b * n) (div-mul_cancel (gcd a d) (is_gcd a d).1))

pub cross_denominator_pos : (a b c d : ℕ) → 0 < b → 0 < d → 0 < b / gcd c b * (d / gcd a d)
cross_denominator_pos a b c d bp dp = mul-pos (pos_of_dvd_of_pos (divided_dvd_second c b) bp) (pos_of_dvd_of_pos (divided_dvd_second a d) dp)
