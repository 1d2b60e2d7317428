use Rattle.wi_graph.proofs.Words.{places_left}
use Rattle.wi_graph.specs.Inner.Apart.{AreLookedAt}
use Rattle.wi_graph.proofs.apart.has_none.Given as goal

abbrev pub invariant-loop-ahead : goal.invariant-loop-ahead
invariant-loop-ahead g l = AreLookedAt (g.W.Watch.watched l.watch) l.area l.ahead

abbrev pub decreases-loop-ahead : goal.decreases-loop-ahead
decreases-loop-ahead g l = places_left l.area l.ahead
