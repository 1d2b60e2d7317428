use Rattle.wi_scenarios.proofs.Words.{◌∙◌, [], ◌∷◌, refl, book_by, state_of}
use Rattle.wi_scenarios.proofs.CallLemmas.{unchanged, as_step}
use Rattle.wi_scenarios.proofs.ClearSteps.{emptied_are, emptied_cells, clear_edited, clear_lacks}
use Rattle.wi_scenarios.proofs.clear.clear.Goals as goal

pub returns-in_err-cells-clause-edit : goal.returns-in_err-cells-clause-edit
returns-in_err-cells-clause-edit g c =
    let old = book_by g.C.Calculator.stored g.C.Calculator.evaluated g.C.Calculator.restarted c.args.calculator.now c.args.desk.now in
    unchanged _ old (clear_lacks old.state c.args.force c.args.area c.is_spanned.ensures c.from_residual.result c.from_residual.ensures.1)

pub returns-in_err-contents-clause-edit : goal.returns-in_err-contents-clause-edit
returns-in_err-contents-clause-edit g c =
    let old = book_by g.C.Calculator.stored g.C.Calculator.evaluated g.C.Calculator.restarted c.args.calculator.now c.args.desk.now in
    unchanged _ old (clear_lacks old.state c.args.force c.args.area c.is_spanned.ensures c.from_residual-in_err-contents.result c.from_residual-in_err-contents.ensures.1)

pub returns-clause-edit : goal.returns-clause-edit
returns-clause-edit g c =
    let old = g.C.Calculator.stored c.args.calculator.now in
    let edited =
    as_step (emptied_cells c.deref.result.now c.deref_mut.result.now (c.deref_mut.ensures.value ∙ c.in_ok-contents.ensures) ∙ c.deref.ensures.value ∙ c.in_ok-cells.ensures)
    (clear_edited (state_of old c.args.desk.now) c.args.force c.args.area c.is_spanned.ensures (c.args.area ∷ []) c.deref_mut.result.now refl
    (emptied_are old.sheet c.args.area c.deref.result.now c.deref_mut.result.now (c.deref.ensures.value ∙ c.in_ok-cells.ensures) (c.deref_mut.ensures.value ∙ c.in_ok-contents.ensures))
    c.edit_area.result (state_of (g.C.Calculator.stored c.edit_area.new.calculator) c.edit_area.new.desk))
    c.edit_area.ensures.edit in
    search (edited)
