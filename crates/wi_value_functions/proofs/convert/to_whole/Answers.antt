use Rattle.wi_value_functions.proofs.Words.{rules}
use Rattle.wi_value_functions.proofs.convert.to_whole.Goals as goal

pub returns : goal.returns
returns c = search rules
