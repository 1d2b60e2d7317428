use Rattle.wi_fraction.proofs.Vocabulary.{arith, common_steps}
use Rattle.wi_fraction.proofs.Fraction.new.Goals as goal

pub returns : goal.returns
returns c = grind (arith, common_steps)
