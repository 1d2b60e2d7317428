use Rattle.wi_functions.proofs.Words.{rules}
use Rattle.wi_functions.proofs.choice.by_condition.Goals as goal

pub returns-in-Ok-true : goal.returns-in-Ok-true
returns-in-Ok-true c = search rules
