use Rattle.wi_value_functions.proofs.Words.{rules}
use Rattle.wi_value_functions.proofs.information.is_logical_value.Goals as goal

pub returns-in-Logical : goal.returns-in-Logical
returns-in-Logical c = search rules
