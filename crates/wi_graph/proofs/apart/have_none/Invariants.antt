use Rattle.std.proofs.Common.{All, take}
use Rattle.wi_graph.specs.Inner.Apart.{HasNone}
use Rattle.wi_graph.proofs.apart.have_none.Given as goal

abbrev pub invariant-loop-area : goal.invariant-loop-area
invariant-loop-area g l = All (HasNone (g.W.Watch.watched l.watch)) (take l.area-index l.areas)
