use Rattle.wi_graph.proofs.Words.{◌≡◌, length, ap, arith, common_steps, nil_from_length}
use Rattle.wi_graph.proofs.ChangeSteps.{next_nothing, nothing_next}
use Rattle.wi_graph.proofs.GraphEnds.{staged_is}
use Rattle.wi_graph.proofs.StageEnds.{stays_view, view_stays}
use Rattle.wi_graph.proofs.graph.Graph.reads_stay.Goals as goal

pub returns-in-Some : goal.returns-in-Some
returns-in-Some c =
    let g = c.self.inside in
    let x = c.in-Some.staged in
    let s = staged_is g.rooms g.readers g.cyclic g.staged x c.in-Some.is c.self.invariant.1 in (
      λ r. let none : length x.next.items ≡ 0 = grind (arith, common_steps) in
          stays_view g.rooms g.staged c.args.self.now x c.in-Some.is c.self.view_is s.ordered (nothing_next g.rooms x.next.items (nil_from_length x.next.items none)),
      λ r. let none : length x.next.items ≡ 0 =
          ap length (next_nothing g.rooms x.next.items s.no_idle (view_stays g.rooms g.staged c.args.self.now x c.in-Some.is c.self.view_is s.ordered r)) in
          grind (arith, common_steps),
    )
