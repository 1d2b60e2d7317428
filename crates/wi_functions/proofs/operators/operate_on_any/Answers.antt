use Rattle.wi_functions.proofs.Words.{rules}
use Rattle.wi_functions.proofs.operators.operate_on_any.Goals as goal

pub returns-in-LessOrEqual : goal.returns-in-LessOrEqual
returns-in-LessOrEqual c = search rules
