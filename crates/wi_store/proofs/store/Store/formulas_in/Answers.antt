use Rattle.wi_store.proofs.Words.{◌≡◌, ◌∙◌, ℕ, List, IfOk, ap, subst, formula_cells, Stored}
use Rattle.wi_store.proofs.ContentsLemmas.{formulas_within}
use Rattle.wi_store.proofs.store.Store.formulas_in.Goals as goal

pub returns : goal.returns
returns c =
    subst (λ (cs : List ℕ). IfOk c.formula_cells.result (λ found. found.items ≡ cs))
    (ap formula_cells c.contents_from.ensures
    ∙ formulas_within c.args.area c.first.result c.self.inside.rooms.entries c.args.self.now.sheet c.self.invariant.0.order (ap (λ (s : Stored). s.sheet) c.self.view_is) c.first.ensures)
    c.formula_cells.ensures
