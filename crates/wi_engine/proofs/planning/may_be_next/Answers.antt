use Rattle.wi_engine.proofs.Words.{rules}
use Rattle.wi_engine.proofs.planning.may_be_next.Goals as goal

pub returns-then-cell : goal.returns-then-cell
returns-then-cell c = search rules

pub returns-else-cell : goal.returns-else-cell
returns-else-cell c = search rules
