use Rattle.wi_functions.proofs.Words.{refl, rules, cell_leaf, Cell}
use Rattle.wi_functions.proofs.Asking.{leaf_asks}
use Rattle.wi_functions.proofs.evaluation.cell_value.Goals as goal

pub returns-in-Missing : goal.returns-in-Missing
returns-in-Missing g c = record { asked = leaf_asks (cell_leaf c.args.reference) (Cell c.args.reference.at) refl; unknown = search rules }
