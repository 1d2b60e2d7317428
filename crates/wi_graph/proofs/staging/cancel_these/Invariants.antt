use Rattle.wi_graph.proofs.Words.{drop}
use Rattle.wi_graph.proofs.StagingSteps.{IsTakingOut}
use Rattle.wi_graph.proofs.staging.cancel_these.Given as goal

abbrev pub invariant-loop-entry : goal.invariant-loop-entry
invariant-loop-entry l = IsTakingOut l.fn.rooms l.rooms l.readers (drop l.entry-index l.brought)
