use Rattle.wi_graph.proofs.EdgeLemmas.{edges_follow}
use Rattle.wi_graph.proofs.laws.edges_follow_edits.Goals as goal

pub returns : goal.returns
returns c = edges_follow
