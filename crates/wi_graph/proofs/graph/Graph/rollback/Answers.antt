use Rattle.wi_graph.proofs.Words.{◌∙◌, sym}
use Rattle.wi_graph.proofs.EdgeLemmas.{rooms_same}
use Rattle.wi_graph.proofs.GraphEnds.{cancelled_view, staged_is}
use Rattle.wi_graph.proofs.graph.Graph.rollback.Goals as goal

pub returns-in-Some : goal.returns-in-Some
returns-in-Some c =
    let g = c.self.inside in
    let e = sym c.take.ensures.value ∙ c.in-Some.is in
    let s = staged_is g.rooms g.readers g.cyclic g.staged c.in-Some.staged e c.self.invariant.1 in
    cancelled_view g.rooms c.cancel_rooms.new.rooms g.staged c.take.new.self c.args.self.now c.take.ensures.after c.self.view_is (rooms_same g.rooms c.cancel_rooms.new.rooms s.ordered c.cancel_rooms.ensures.ordered c.cancel_rooms.ensures.rooms)
