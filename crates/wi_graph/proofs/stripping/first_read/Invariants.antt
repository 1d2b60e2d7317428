use Rattle.wi_graph.proofs.Words.{length}
use Rattle.wi_graph.proofs.StripSteps.{KeepsCells}
use Rattle.wi_graph.proofs.stripping.first_read.Given as goal

abbrev pub invariant-areas : goal.invariant-areas
invariant-areas l = KeepsCells l.rest l.fn.areas.items l.areas.items

abbrev pub decreases-areas : goal.decreases-areas
decreases-areas l = length l.areas.items
