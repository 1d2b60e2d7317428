use Rattle.wi_graph.proofs.Words.{take, AreEnqueued, beyond}
use Rattle.wi_graph.proofs.beyond.enqueue_beyond.Given as goal

abbrev pub invariant-loop-cell : goal.invariant-loop-cell
invariant-loop-cell g l = AreEnqueued (beyond (g.W.Watch.watched l.watch) (take l.cell-index l.cells)) l.initial.found l.found l.initial.work.items l.work.items
