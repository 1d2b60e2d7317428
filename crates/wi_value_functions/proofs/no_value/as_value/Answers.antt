use Rattle.wi_value_functions.proofs.Words.{rules}
use Rattle.wi_value_functions.proofs.no_value.as_value.Goals as goal

pub returns-in-Err-Error-clause-ends : goal.returns-in-Err-Error-clause-ends
returns-in-Err-Error-clause-ends g c = search rules
