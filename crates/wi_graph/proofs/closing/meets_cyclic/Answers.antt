use Rattle.wi_graph.proofs.Words.{rules}
use Rattle.wi_graph.proofs.ClosingSteps.{no_cyclic_met}
use Rattle.wi_graph.proofs.closing.meets_cyclic.Goals as goal

pub returns-then-is_empty : goal.returns-then-is_empty
returns-then-is_empty c = no_cyclic_met c.args.next.now c.args.cyclic.now (search rules)
