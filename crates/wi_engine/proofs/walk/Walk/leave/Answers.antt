use Rattle.wi_engine.proofs.Words.{rules}
use Rattle.wi_engine.proofs.walk.Walk.leave.Goals as goal

pub returns-clause-order : goal.returns-clause-order
returns-clause-order c = search rules
