use Rattle.wi_engine.proofs.Words.{rules}
use Rattle.wi_engine.proofs.known.is_reached.Goals as goal

pub returns-in-Some-clause-before : goal.returns-in-Some-clause-before
returns-in-Some-clause-before c = search rules
