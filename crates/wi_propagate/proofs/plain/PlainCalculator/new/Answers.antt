use Rattle.wi_propagate.proofs.Words.{rules}
use Rattle.wi_propagate.proofs.plain.PlainCalculator.new.Goals as goal

pub returns-clause-stored : goal.returns-clause-stored
returns-clause-stored c = search rules
