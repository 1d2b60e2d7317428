use Rattle.wi_propagate.proofs.Words.{rules}
use Rattle.wi_propagate.proofs.plain.PlainCalculatorCalculator.value.Goals as goal

pub returns-clause-value : goal.returns-clause-value
returns-clause-value c = search rules

pub returns-clause-evaluations : goal.returns-clause-evaluations
returns-clause-evaluations c = search c.shown.ensures.within.0

pub returns-clause-restarts : goal.returns-clause-restarts
returns-clause-restarts c = search c.shown.ensures.within.1
