use Rattle.wi_store.proofs.Words.{◌≡◌, ◌∙◌, ℕ, List, IfOk, ap, subst, formula_cells, Stored}
use Rattle.wi_store.proofs.ContentsLemmas.{formulas_of}
use Rattle.wi_store.proofs.store.Store.formulas.Goals as goal

pub returns : goal.returns
returns c =
    subst (λ (cs : List ℕ). IfOk c.formula_cells.result (λ found. found.items ≡ cs))
    (ap formula_cells c.all.ensures ∙ ap (λ (s : Stored). formula_cells s.sheet) c.self.view_is
    ∙ formulas_of c.self.inside.rooms.entries c.args.self.now.sheet c.self.invariant.0.order (ap (λ (s : Stored). s.sheet) c.self.view_is))
    c.formula_cells.ensures
