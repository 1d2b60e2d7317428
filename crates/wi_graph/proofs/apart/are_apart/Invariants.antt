use Rattle.std.proofs.Common.{All, take}
use Rattle.wi_graph.specs.Inner.Apart.{IsApart}
use Rattle.wi_graph.proofs.apart.are_apart.Given as goal

abbrev pub invariant-loop-entry : goal.invariant-loop-entry
invariant-loop-entry g l = All (IsApart (g.W.Watch.watched l.watch) l.rooms) (take l.entry-index l.next)
