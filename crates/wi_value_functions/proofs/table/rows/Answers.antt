use Rattle.wi_value_functions.proofs.Words.{refl, functions}
use Rattle.wi_value_functions.proofs.table.rows.Goals as goal

pub returns : goal.returns
unfolding functions
returns c = refl
