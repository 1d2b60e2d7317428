use Rattle.wi_fraction.proofs.Vocabulary.{arith, common_steps, read}
use Rattle.wi_fraction.proofs.Fraction.read.Goals as goal

pub returns-in-43 : goal.returns-in-43
unfolding read
returns-in-43 c = grind (arith, common_steps)
