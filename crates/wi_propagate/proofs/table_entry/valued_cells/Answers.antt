use Rattle.wi_propagate.proofs.Words.{arith, common_steps}
use Rattle.wi_propagate.proofs.table_entry.valued_cells.Goals as goal

pub loop-pair-preserved : goal.loop-pair-preserved
loop-pair-preserved c = grind (arith, common_steps)

pub returns : goal.returns
returns c = grind (arith, common_steps)
