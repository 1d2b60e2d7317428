use Rattle.wi_graph.proofs.Words.{length}
use Rattle.wi_graph.proofs.StripSteps.{IsStripping}
use Rattle.wi_graph.proofs.stripping.strip.Given as goal

abbrev pub invariant-cells : goal.invariant-cells
invariant-cells l = IsStripping l.fn.areas l.areas l.pinned l.fn.rest l.rest l.work.items l.waiting

abbrev pub decreases-cells : goal.decreases-cells
decreases-cells l = length l.rest.keys
