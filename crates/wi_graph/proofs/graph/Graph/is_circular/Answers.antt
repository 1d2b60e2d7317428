use Rattle.wi_graph.proofs.Words.{rules}
use Rattle.wi_graph.proofs.GraphEnds.{circular_is}
use Rattle.wi_graph.proofs.graph.Graph.is_circular.Goals as goal

pub returns : goal.returns
returns c =
    let g = c.self.inside in
    circular_is g.rooms g.readers g.cyclic g.staged c.args.self.now c.args.at _ c.self.view_is c.requires c.self.invariant (search rules)
