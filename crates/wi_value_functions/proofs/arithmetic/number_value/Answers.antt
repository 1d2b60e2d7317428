use Rattle.wi_value_functions.proofs.Words.{rules}
use Rattle.wi_value_functions.proofs.arithmetic.number_value.Goals as goal

pub returns-in-Err : goal.returns-in-Err
returns-in-Err c = search rules
