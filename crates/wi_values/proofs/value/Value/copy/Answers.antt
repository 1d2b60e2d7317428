use Rattle.wi_values.proofs.Words.{rules}
use Rattle.wi_values.proofs.value.Value.copy.Goals as goal

pub returns-in-Logical : goal.returns-in-Logical
returns-in-Logical c = search rules
