use Rattle.wi_value_functions.proofs.Words.{rules}
use Rattle.wi_value_functions.proofs.arithmetic.subtract.Goals as goal

pub returns : goal.returns
returns c = search rules
