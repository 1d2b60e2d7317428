use Rattle.wi_fold_functions.proofs.Words.{rules}
use Rattle.wi_fold_functions.proofs.item.number_of_cell.Goals as goal

pub returns-in-Text : goal.returns-in-Text
returns-in-Text c = search rules
