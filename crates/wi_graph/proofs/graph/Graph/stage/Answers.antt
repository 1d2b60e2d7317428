use Rattle.wi_graph.proofs.Words.{◌∙◌, refl, ap, on_err, Staging}
use Rattle.wi_graph.proofs.EdgeLemmas.{rooms_same}
use Rattle.wi_graph.proofs.GraphEnds.{unstaged}
use Rattle.wi_graph.proofs.ChangeSteps.{staged_edges}
use Rattle.wi_graph.proofs.StageEnds.{refused_invariant, refused_view, staged_view}
use Rattle.wi_graph.proofs.graph.Graph.stage.Goals as goal

pub make_ready-requires : goal.make_ready-requires
make_ready-requires c =
    let g = c.self.inside in
    unstaged g.rooms g.readers g.cyclic g.staged (ap (λ (x : Staging). x.staged) c.self.view_is ∙ c.requires) c.self.invariant.0

pub invariant_of-self-2 : goal.invariant_of-self-2
invariant_of-self-2 c = (tt, c.in_ok-staged.ensures.staged)

pub returns-clause-ok : goal.returns-clause-ok
returns-clause-ok c =
    let g = c.self.inside in
    let old = unstaged g.rooms g.readers g.cyclic g.staged (ap (λ (x : Staging). x.staged) c.self.view_is ∙ c.requires) c.self.invariant.0 in
    staged_view g.rooms c.make_ready.new.rooms c.in_ok-staged.staged.next.items g.staged c.args.self.now c.args.changes.now c.self.view_is (rooms_same g.rooms c.make_ready.new.rooms old.ordered c.make_ready.ensures.ordered c.make_ready.ensures.rooms)
    (staged_edges g.rooms c.make_ready.new.rooms c.in_ok-staged.staged.next.items c.in_ok-staged.staged.next.items c.args.changes.now old.ordered c.make_ready.ensures.ordered c.in_ok-staged.ensures.brings c.make_ready.ensures.rooms (λ d. refl))

pub invariant_of-self : goal.invariant_of-self
invariant_of-self c =
    let g = c.self.inside in
    let none = ap (λ (x : Staging). x.staged) c.self.view_is ∙ c.requires in
    refused_invariant g.rooms c.make_ready.new.rooms c.make_ready.new.readers c.make_ready.new.cyclic g.staged none c.in_err-staged.ensures.err

pub returns-in_err-staged-clause-err : goal.returns-in_err-staged-clause-err
returns-in_err-staged-clause-err c =
    let g = c.self.inside in
    let old = unstaged g.rooms g.readers g.cyclic g.staged (ap (λ (x : Staging). x.staged) c.self.view_is ∙ c.requires) c.self.invariant.0 in
    on_err c.from_residual.result (refused_view g.rooms c.make_ready.new.rooms g.staged c.args.self.now c.self.view_is (rooms_same g.rooms c.make_ready.new.rooms old.ordered c.make_ready.ensures.ordered c.make_ready.ensures.rooms))
