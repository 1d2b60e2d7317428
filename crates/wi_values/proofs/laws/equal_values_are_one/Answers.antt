use Rattle.wi_values.proofs.Words.{arith, common_steps, numbers, texts}
use Rattle.wi_values.proofs.laws.equal_values_are_one.Goals as goal

pub returns : goal.returns
returns c = grind (arith, common_steps, numbers, texts)
