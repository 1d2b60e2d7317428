use Rattle.wi_graph.proofs.Words.{◌+◌, length, missing}
use Rattle.wi_graph.proofs.SearchSteps.{all_readers}
use Rattle.wi_graph.proofs.BeyondSteps.{IsAsking}
use Rattle.wi_graph.proofs.beyond.cone_beyond.Given as goal

abbrev pub invariant-cells : goal.invariant-cells
invariant-cells g l = IsAsking l.readers (g.W.Watch.watched l.watch) l.cells l.found l.work.items l.search

abbrev pub decreases-cells : goal.decreases-cells
decreases-cells g l = length (missing l.found (all_readers l.readers)) + length l.work.items
