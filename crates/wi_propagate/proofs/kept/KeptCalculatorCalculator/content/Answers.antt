use Rattle.wi_propagate.proofs.Words.{rules}
use Rattle.wi_propagate.proofs.kept.KeptCalculatorCalculator.content.Goals as goal

pub returns : goal.returns
returns c = search rules
