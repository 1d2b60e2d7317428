use Rattle.wi_value_functions.proofs.Words.{rules}
use Rattle.wi_value_functions.proofs.first_error.both.Goals as goal

pub returns-in_err-x : goal.returns-in_err-x
returns-in_err-x c = search rules
