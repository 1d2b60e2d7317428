use Rattle.wi_value_functions.proofs.Words.{rules}
use Rattle.wi_value_functions.proofs.information.is_not_available.Goals as goal

pub returns-in-Fault : goal.returns-in-Fault
returns-in-Fault c = search rules
