use Rattle.wi_propagate.proofs.Words.{rules}
use Rattle.wi_propagate.proofs.plain.PlainCalculatorCalculator.content.Goals as goal

pub returns : goal.returns
returns c = search rules
