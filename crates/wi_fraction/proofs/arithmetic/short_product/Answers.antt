use Rattle.wi_fraction.proofs.Vocabulary.{◌≡◌, ◌≤◌, ◌^◌, ℤ, ◌*ℤ◌, unsigned_abs, rules, FitsSigned, w128, to_z-of_z, unsigned_abs-mul, refl}
use Rattle.std.proofs.lemmas.Int.{fits_signed_mul}
use Rattle.std.proofs.lemmas.Nat.{mul-le}
use Rattle.wi_fraction.proofs.arithmetic.short_product.Goals as goal

fits : (a b : ℤ) → unsigned_abs a ≤ 2 ^ 63 → unsigned_abs b ≤ 2 ^ 63 → FitsSigned w128 (a *ℤ b)
fits a b h k = fits_signed_mul w128 a b (2 ^ 63) (2 ^ 63) h k (search rules)

size : (a b : ℤ) → unsigned_abs a ≤ 2 ^ 63 → unsigned_abs b ≤ 2 ^ 63 → unsigned_abs (a *ℤ b) ≤ 2 ^ 126
size a b h k = rw (unsigned_abs-mul a b) (mul-le _ _ (2 ^ 63) (2 ^ 63) h k)

pub returns-in-Ok-Ok : goal.returns-in-Ok-Ok
returns-in-Ok-Ok c =
    let first : c.from.result ≡ c.args.a = search rules in
    let second : c.from-in-Ok-Ok.result ≡ c.args.b = search rules in
    let a : unsigned_abs c.args.a ≤ 2 ^ 63 = search rules in
    let b : unsigned_abs c.args.b ≤ 2 ^ 63 = search rules in
    let whole = fits c.args.a c.args.b a b in
    rw (first, second) (simp (to_z-of_z, c.ranges.a, c.ranges.b, whole) (refl, size c.args.a c.args.b a b))
