use Rattle.wi_values.proofs.Words.{◌≡◌, ◌+◌, ◌-◌, arith, rules, common_steps}
use Rattle.wi_values.proofs.cells.rise.Goals as goal

pub returns-then-le : goal.returns-then-le
returns-then-le c = (
  λ t. cc,
  λ h.
      let same : c.loop-i.i - 1 + 1 ≡ c.loop-i.i = omega arith in
      let rising = h (c.loop-i.i - 1) (search rules) in
      absurd (grind (arith, common_steps, same, rising)),
)

pub returns : goal.returns
returns c = (λ t k l. c.loop-i.invariant k (omega arith), λ h. cc)
