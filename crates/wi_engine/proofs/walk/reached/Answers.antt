use Rattle.wi_engine.proofs.Words.{rules}
use Rattle.wi_engine.proofs.walk.reached.Goals as goal

pub returns-clause-circular : goal.returns-clause-circular
returns-clause-circular c = search rules

pub returns-clause-only : goal.returns-clause-only
returns-clause-only c = search rules

pub returns-clause-root : goal.returns-clause-root
returns-clause-root c = search rules
