use Rattle.wi_graph.proofs.Words.{take, AreEnqueued}
use Rattle.wi_graph.proofs.cone.enqueue.Given as goal

abbrev pub invariant-loop-cell : goal.invariant-loop-cell
invariant-loop-cell l = AreEnqueued (take l.cell-index l.cells) l.initial.found l.found l.initial.work.items l.work.items
