use Rattle.wi_value_functions.proofs.Words.{rules}
use Rattle.wi_value_functions.proofs.information.is_empty_value.Goals as goal

pub returns-in-Empty : goal.returns-in-Empty
returns-in-Empty c = search rules
