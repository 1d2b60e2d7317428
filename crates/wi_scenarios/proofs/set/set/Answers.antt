use Rattle.wi_scenarios.proofs.Words.{◌∙◌, Some, [], ◌∷◌, refl, sym, book_by, state_of}
use Rattle.wi_scenarios.proofs.CallLemmas.{unchanged, as_step}
use Rattle.wi_scenarios.proofs.SetSteps.{set_empty, set_refused, set_edited, one_cell_edit}
use Rattle.wi_scenarios.proofs.set.set.Goals as goal

pub returns-then-is_empty-clause-edit : goal.returns-then-is_empty-clause-edit
returns-then-is_empty-clause-edit g c =
    let old = book_by g.C.Calculator.stored g.C.Calculator.evaluated g.C.Calculator.restarted c.args.calculator.now c.args.desk.now in
    unchanged _ old (set_empty old.state c.args.force c.args.at c.args.content.now c.is_placed.ensures (sym c.is_empty.ensures ∙ c.if-is_empty.true), refl, refl)

pub returns-in_err-content-clause-edit : goal.returns-in_err-content-clause-edit
returns-in_err-content-clause-edit g c =
    let old = book_by g.C.Calculator.stored g.C.Calculator.evaluated g.C.Calculator.restarted c.args.calculator.now c.args.desk.now in
    unchanged _ old
    (set_refused old.state c.args.force c.args.at c.args.content.now c.is_placed.ensures (sym c.is_empty.ensures ∙ c.if-is_empty.false) c.from_residual.result c.in_err-content.field-0.0 c.from_residual.ensures.1 c.in_err-content.ensures)

pub returns-clause-edit : goal.returns-clause-edit
returns-clause-edit g c =
    let s = state_of (g.C.Calculator.stored c.args.calculator.now) c.args.desk.now in
    as_step refl
    (set_edited s c.args.force c.args.at c.args.content.now c.is_placed.ensures (sym c.is_empty.ensures ∙ c.if-is_empty.false)
    c.edit_area.result (state_of (g.C.Calculator.stored c.edit_area.new.calculator) c.edit_area.new.desk) c.in_ok-content.content
    (record { named = c.of-area.result ∷ []; contents = (c.args.at, Some c.in_ok-content.content) ∷ [] }) c.in_ok-content.ensures
    (one_cell_edit c.args.at c.in_ok-content.content c.of-area.result (c.of-area.result ∷ []) ((c.args.at, Some c.in_ok-content.content) ∷ []) c.of-area.ensures refl refl))
    c.edit_area.ensures.edit
