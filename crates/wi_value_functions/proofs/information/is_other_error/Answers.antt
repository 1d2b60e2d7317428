use Rattle.wi_value_functions.proofs.Words.{rules}
use Rattle.wi_value_functions.proofs.information.is_other_error.Goals as goal

pub returns-then-is_error_value : goal.returns-then-is_error_value
returns-then-is_error_value c = search rules
