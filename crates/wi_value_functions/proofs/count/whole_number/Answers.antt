use Rattle.wi_value_functions.proofs.Words.{rules}
use Rattle.wi_value_functions.proofs.count.whole_number.Goals as goal

pub returns-in-Ok-new : goal.returns-in-Ok-new
returns-in-Ok-new c = search rules
