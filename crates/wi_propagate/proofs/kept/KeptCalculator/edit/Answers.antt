use Rattle.wi_propagate.proofs.Words.{◌∙◌, sym, subst, Edges, AreEdgesOf, sheet_after, KeptSheet}
use Rattle.wi_propagate.proofs.kept.KeptCalculator.edit.Goals as goal

pub edit_constant-requires-clause-cells : goal.edit_constant-requires-clause-cells
edit_constant-requires-clause-cells c = sym c.in-Some.ensures

pub edit_constant-requires-clause-reads : goal.edit_constant-requires-clause-reads
edit_constant-requires-clause-reads c =
    subst (λ (k : KeptSheet). (es : Edges) → AreEdgesOf es k.stored.sheet → AreEdgesOf es (sheet_after k.stored.sheet c.args.changes.now)) c.self.view_is
    (c.is_without_formulas.ensures c.if-is_without_formulas.true)

pub edit_cells-requires : goal.edit_cells-requires
edit_cells-requires c = sym c.in-Some.ensures

pub edit_cells-requires-2 : goal.edit_cells-requires-2
edit_cells-requires-2 c = c.as_slice.ensures ∙ c.in_ok-cells.ensures
