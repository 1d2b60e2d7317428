use Rattle.wi_value_functions.proofs.Words.{rules}
use Rattle.wi_value_functions.proofs.information.is_number_value.Goals as goal

pub returns-in-Number : goal.returns-in-Number
returns-in-Number c = search rules
