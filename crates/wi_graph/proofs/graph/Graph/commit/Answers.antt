use Rattle.wi_graph.proofs.Words.{None, refl}
use Rattle.wi_graph.proofs.EdgeLemmas.{rooms_over}
use Rattle.wi_graph.proofs.GraphEnds.{committed_graph, committed_view, staged_is}
use Rattle.wi_graph.proofs.graph.Graph.commit.Goals as goal

pub invariant_of-self-2 : goal.invariant_of-self-2
invariant_of-self-2 c =
    let g = c.self.inside in
    let x = c.in-Some.staged in
    let s = staged_is g.rooms g.readers g.cyclic g.staged x c.in-Some.is c.self.invariant.1 in
    (committed_graph g.rooms c.commit_rooms.new.rooms x.next.items g.readers c.commit_rooms.new.readers g.cyclic c.take_away.new.set x.turns s c.commit_rooms.ensures.ordered c.commit_rooms.ensures.rooms c.commit_rooms.ensures.pairs (rw c.deref.ensures.value at c.take_away.ensures), tt)

pub returns : goal.returns
returns c =
    let g = c.self.inside in
    let x = c.in-Some.staged in
    let s = staged_is g.rooms g.readers g.cyclic g.staged x c.in-Some.is c.self.invariant.1 in
    committed_view g.rooms c.commit_rooms.new.rooms g.staged None c.args.self.now x c.in-Some.is refl c.self.view_is (rooms_over g.rooms c.commit_rooms.new.rooms x.next.items s.ordered c.commit_rooms.ensures.ordered c.commit_rooms.ensures.rooms)
