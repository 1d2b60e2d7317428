use Rattle.wi_graph.proofs.PinnedSteps.{IsSearched}
use Rattle.wi_graph.proofs.Words.{places_left}
use Rattle.wi_graph.proofs.pinned.has_cyclic_outside.Given as goal

abbrev pub invariant-loop-ahead : goal.invariant-loop-ahead
invariant-loop-ahead l = IsSearched l.cyclic l.cells l.area l.ahead

abbrev pub decreases-loop-ahead : goal.decreases-loop-ahead
decreases-loop-ahead l = places_left l.area l.ahead
