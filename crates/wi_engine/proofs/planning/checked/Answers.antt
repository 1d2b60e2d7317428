use Rattle.wi_engine.proofs.Words.{rules}
use Rattle.wi_engine.proofs.planning.checked.Goals as goal

pub returns-clause-plan : goal.returns-clause-plan
returns-clause-plan c = search rules
