use Rattle.wi_graph.proofs.Words.{rules}
use Rattle.wi_graph.proofs.GraphEnds.{empty_graph}
use Rattle.wi_graph.proofs.graph.Graph.new.Goals as goal

pub invariant_of-result : goal.invariant_of-result
invariant_of-result c = search (rules, empty_graph)

pub returns : goal.returns
returns c = search rules
