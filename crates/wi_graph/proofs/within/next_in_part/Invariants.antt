use Rattle.wi_graph.proofs.Words.{places_left}
use Rattle.wi_graph.proofs.WithinSteps.{IsSeeking}
use Rattle.wi_graph.proofs.within.next_in_part.Given as goal

abbrev pub invariant-loop-ahead : goal.invariant-loop-ahead
invariant-loop-ahead g l = IsSeeking (g.C.FindsFirst.cells l.cells) l.area l.fn.from l.ahead

abbrev pub decreases-loop-ahead : goal.decreases-loop-ahead
decreases-loop-ahead g l = places_left l.area l.ahead
