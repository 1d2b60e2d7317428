use Rattle.wi_propagate.proofs.Words.{length}
use Rattle.wi_propagate.proofs.plans.+are_replaced.Given as goal

abbrev pub decreases-are_replaced : goal.decreases-are_replaced
decreases-are_replaced l = length l.inputs.now
