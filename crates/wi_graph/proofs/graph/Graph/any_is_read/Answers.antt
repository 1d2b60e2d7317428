use Rattle.wi_graph.proofs.Words.{◌∙◌, ap, sym, subst, AreEdgesOf, Staging}
use Rattle.wi_graph.proofs.BeyondSteps.{read_cell, unread_cells}
use Rattle.wi_graph.proofs.GraphEnds.{unstaged}
use Rattle.wi_graph.proofs.graph.Graph.any_is_read.Goals as goal

pub returns-clause-unread : goal.returns-clause-unread
returns-clause-unread c =
    let g = c.self.inside in
    let old = unstaged g.rooms g.readers g.cyclic g.staged (ap (λ (x : Staging). x.staged) c.self.view_is ∙ c.requires) c.self.invariant.0 in
    λ e s h. unread_cells g.rooms g.readers g.cyclic c.args.cells.now old (c.any_is_read.ensures.unread e) s (subst (λ (x : Staging). AreEdgesOf x.now s) (sym c.self.view_is) h)

pub returns-clause-read : goal.returns-clause-read
returns-clause-read c =
    let g = c.self.inside in
    let old = unstaged g.rooms g.readers g.cyclic g.staged (ap (λ (x : Staging). x.staged) c.self.view_is ∙ c.requires) c.self.invariant.0 in
    λ e s h. read_cell g.rooms g.readers g.cyclic c.args.cells.now old (c.any_is_read.ensures.read e) s (subst (λ (x : Staging). AreEdgesOf x.now s) (sym c.self.view_is) h)
