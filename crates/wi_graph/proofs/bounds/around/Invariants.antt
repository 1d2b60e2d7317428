use Rattle.wi_graph.proofs.Words.{take, AreWithin, as_set}
use Rattle.wi_graph.proofs.bounds.around.Given as goal

abbrev pub invariant-loop-cell : goal.invariant-loop-cell
invariant-loop-cell l = AreWithin l.bounds (as_set (take l.cell-index l.cells))
