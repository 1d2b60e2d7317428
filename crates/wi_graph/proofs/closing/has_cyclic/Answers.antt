use Rattle.wi_graph.proofs.Words.{◌∙◌}
use Rattle.wi_graph.proofs.ClosingSteps.{has_one_is}
use Rattle.wi_graph.proofs.closing.has_cyclic.Goals as goal

pub returns : goal.returns
returns c = c.is_some.ensures ∙ has_one_is c.args.cyclic.now c.args.area c.next_within.result (rw c.first.ensures at c.next_within.ensures.found) (rw c.first.ensures at c.next_within.ensures.first)
