use Rattle.wi_value_functions.proofs.Words.{rules}
use Rattle.wi_value_functions.proofs.arithmetic.raise.Goals as goal

pub returns-else-denominator-eq1 : goal.returns-else-denominator-eq1
returns-else-denominator-eq1 c = search rules
