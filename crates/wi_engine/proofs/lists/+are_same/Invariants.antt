use Rattle.wi_engine.proofs.Words.{length}
use Rattle.wi_engine.proofs.lists.+are_same.Given as goal

abbrev pub decreases-are_same : goal.decreases-are_same
decreases-are_same l = length l.a.now
