use Rattle.wi_graph.proofs.Words.{◌∙◌, as_set}
use Rattle.wi_graph.proofs.ClosingSteps.{has_one_is}
use Rattle.wi_graph.proofs.closing.has_one.Goals as goal

pub returns : goal.returns
returns c = c.is_some.ensures ∙ has_one_is (as_set c.args.cells.now) c.args.area c.first_listed.result c.first_listed.ensures.found c.first_listed.ensures.first
