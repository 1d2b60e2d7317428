use Rattle.wi_functions.proofs.Words.{rules}
use Rattle.wi_functions.proofs.evaluation.zero_for_empty.Goals as goal

pub returns-in-Empty : goal.returns-in-Empty
returns-in-Empty c = search rules
