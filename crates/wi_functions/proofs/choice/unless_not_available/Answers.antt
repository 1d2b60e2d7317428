use Rattle.wi_functions.proofs.Words.{rules}
use Rattle.wi_functions.proofs.choice.unless_not_available.Goals as goal

pub returns-in_default : goal.returns-in_default
returns-in_default c = search rules
