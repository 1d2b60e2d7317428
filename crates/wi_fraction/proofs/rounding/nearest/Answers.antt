use Rattle.wi_fraction.proofs.Vocabulary.{◌∙◌, ap, arith, div-add-mod', mod-lt}
use Rattle.std.proofs.Common.{◌≡◌, ℕ, ◌+◌, ◌-◌, ◌*◌, ◌/◌, ◌%◌, ◌<◌, ◌≤◌}
use Rattle.wi_fraction.proofs.Decimals.{quotient_is}
use Rattle.wi_fraction.proofs.rounding.nearest.Goals as goal

-- a rest below the half is cut off, another makes one more
rest_below : (n d : ℕ) → 0 < d → n % d < d - n % d → n / d ≡ (2 * n + d) / (2 * d)
rest_below n d dp h = quotient_is (2 * n + d) (n / d) (2 * (n % d) + d) (2 * d) (omega (arith, div-add-mod' n d)) (omega (arith, h))

rest_above : (n d : ℕ) → 0 < d → d - n % d ≤ n % d → n / d + 1 ≡ (2 * n + d) / (2 * d)
rest_above n d dp h =
    let rest : n % d < d = mod-lt n dp in
    quotient_is (2 * n + d) (n / d + 1) (2 * (n % d) - d) (2 * d) (omega (arith, div-add-mod' n d, h)) (omega (arith, rest))

pub overflow_sub-d : goal.overflow_sub-d
overflow_sub-d c = omega (arith, c.remainder-rest.ensures, mod-lt c.args.n c.requires.above_zero)

pub returns-then-rest-d : goal.returns-then-rest-d
returns-then-rest-d c = c.divide.ensures ∙ rest_below c.args.n c.args.d c.requires.above_zero (rw c.remainder-rest.ensures at c.if-rest-d.true)

pub returns : goal.returns
returns c = ap (λ k. k + 1) c.divide-2.ensures ∙ rest_above c.args.n c.args.d c.requires.above_zero (rw c.remainder-rest.ensures at c.if-rest-d.false)
