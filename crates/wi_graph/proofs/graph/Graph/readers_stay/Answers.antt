use Rattle.wi_graph.proofs.ApartSteps.{staged_alike}
use Rattle.wi_graph.proofs.GraphEnds.{staged_is}
use Rattle.wi_graph.proofs.graph.Graph.readers_stay.Goals as goal

pub returns-in-Some : goal.returns-in-Some
returns-in-Some g c = λ yes.
    let it = c.self.inside in
    let x = c.in-Some.staged in
    let staged = staged_is it.rooms it.readers it.cyclic it.staged x c.in-Some.is c.self.invariant.1 in
    staged_alike (g.W.Watch.watched c.args.watch.now) it.rooms it.staged c.args.self.now x c.deref.result.now c.in-Some.is c.self.view_is staged.ordered c.deref.ensures (c.are_apart.ensures yes)
