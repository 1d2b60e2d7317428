use Rattle.wi_value_functions.proofs.Words.{rules}
use Rattle.wi_value_functions.proofs.count.counted.Goals as goal

pub returns-then-counts : goal.returns-then-counts
returns-then-counts c = search rules
