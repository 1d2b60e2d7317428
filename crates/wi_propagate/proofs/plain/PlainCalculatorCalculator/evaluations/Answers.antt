use Rattle.wi_propagate.proofs.Words.{rules}
use Rattle.wi_propagate.proofs.plain.PlainCalculatorCalculator.evaluations.Goals as goal

pub returns : goal.returns
returns c = search rules
