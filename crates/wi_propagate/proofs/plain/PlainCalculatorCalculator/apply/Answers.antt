use Rattle.wi_propagate.proofs.Words.{rules}
use Rattle.wi_propagate.proofs.plain.PlainCalculatorCalculator.apply.Goals as goal

pub returns-clause-applied : goal.returns-clause-applied
returns-clause-applied c = search rules
