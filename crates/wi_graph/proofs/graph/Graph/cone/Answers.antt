use Rattle.wi_graph.proofs.Words.{◌≡◌, ◌∙◌, ℕ, sym, ap, subst, Vec, IsStrictlyIncreasing, IfOk-weaker, Sheet, is_one_of, in_cone, AreEdgesOf, Staging, IsConeOf}
use Rattle.wi_graph.proofs.TurningSteps.{listed_cone}
use Rattle.wi_graph.proofs.GraphEnds.{unstaged}
use Rattle.wi_graph.proofs.graph.Graph.cone.Goals as goal

pub returns-clause-order : goal.returns-clause-order
returns-clause-order c = IfOk-weaker c.listed_cone.result (λ (list : Vec ℕ). IsConeOf c.self.inside.readers c.args.cells.now list.items) (λ list. IsStrictlyIncreasing list.items) (λ list k. k.order) c.listed_cone.ensures

pub returns-clause-cells : goal.returns-clause-cells
returns-clause-cells c =
    let g = c.self.inside in
    let cells = c.args.cells.now in
    let old = unstaged g.rooms g.readers g.cyclic g.staged (ap (λ (x : Staging). x.staged) c.self.view_is ∙ c.requires) c.self.invariant.0 in
    IfOk-weaker c.listed_cone.result (λ (list : Vec ℕ). IsConeOf g.readers cells list.items) (λ list. (s : Sheet) → AreEdgesOf c.args.self.now.now s → (d : ℕ) → is_one_of list.items d ≡ in_cone s cells d)
    (λ list k s h. listed_cone g.rooms g.readers g.cyclic cells list.items old k s (subst (λ (x : Staging). AreEdgesOf x.now s) (sym c.self.view_is) h)) c.listed_cone.ensures
