use Rattle.wi_fraction.proofs.Vocabulary.{arith, common_steps, point_after}
use Rattle.wi_fraction.proofs.Scanning.{digits_before}
use Rattle.wi_fraction.proofs.read.point_after.Goals as goal

pub scaled_after-requires-clause-parts : goal.scaled_after-requires-clause-parts
scaled_after-requires-clause-parts c = rw c.digit_count-places.ensures.value (digits_before c.args.text.now)

pub returns : goal.returns
unfolding point_after
returns c = grind (arith, common_steps)
