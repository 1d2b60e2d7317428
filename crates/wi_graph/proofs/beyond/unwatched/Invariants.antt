use Rattle.wi_graph.proofs.Words.{◌≡◌, ◌++◌, drop, beyond}
use Rattle.wi_graph.proofs.beyond.unwatched.Given as goal

abbrev pub invariant-loop-cell : goal.invariant-loop-cell
invariant-loop-cell g l = l.list.items ++ beyond (g.W.Watch.watched l.watch) (drop l.cell-index l.cells) ≡ beyond (g.W.Watch.watched l.watch) l.cells
