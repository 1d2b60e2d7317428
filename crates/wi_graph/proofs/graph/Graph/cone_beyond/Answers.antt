use Rattle.wi_graph.proofs.Words.{◌≡◌, ◌∙◌, ◌&&◌, not, ℕ, sym, ap, subst, IsStrictlyIncreasing, IfOk-weaker, SmallVec, Sheet, is_one_of, in_cone, AreEdgesOf, Staging, IsListBeyond}
use Rattle.wi_graph.proofs.BeyondSteps.{edge_beyond}
use Rattle.wi_graph.proofs.GraphEnds.{unstaged}
use Rattle.wi_graph.proofs.graph.Graph.cone_beyond.Goals as goal

pub returns-clause-order : goal.returns-clause-order
returns-clause-order g c =
    IfOk-weaker c.listed_beyond.result (λ (list : SmallVec ℕ). IsListBeyond c.self.inside.readers (g.W.Watch.watched c.args.watch.now) c.args.cells.now list.items) (λ list. IsStrictlyIncreasing list.items) (λ list k. k.order) c.listed_beyond.ensures

pub returns-clause-cells : goal.returns-clause-cells
returns-clause-cells g c =
    let i = c.self.inside in
    let cells = c.args.cells.now in
    let w = g.W.Watch.watched c.args.watch.now in
    let old = unstaged i.rooms i.readers i.cyclic i.staged (ap (λ (x : Staging). x.staged) c.self.view_is ∙ c.requires.staged) c.self.invariant.0 in
    IfOk-weaker c.listed_beyond.result (λ (list : SmallVec ℕ). IsListBeyond i.readers w cells list.items) (λ list. (s : Sheet) → AreEdgesOf c.args.self.now.now s → (d : ℕ) → is_one_of list.items d ≡ (in_cone s cells d && not (w d)))
    (λ list k s h. edge_beyond i.rooms i.readers i.cyclic w cells list.items old (λ t u. c.requires.closed t (subst (λ (x : Staging). AreEdgesOf x.now t) c.self.view_is u)) k s (subst (λ (x : Staging). AreEdgesOf x.now s) (sym c.self.view_is) h)) c.listed_beyond.ensures
