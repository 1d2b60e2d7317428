use Rattle.wi_functions.proofs.Words.{rules}
use Rattle.wi_functions.proofs.operators.quotient.Goals as goal

pub returns : goal.returns
returns c = search rules
