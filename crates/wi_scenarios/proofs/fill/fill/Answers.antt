use Rattle.wi_scenarios.proofs.Words.{[], ◌∷◌, refl, sym, ◌∙◌, subst, rules, option_copied, cells_of, AreCopies, book_by, state_of}
use Rattle.wi_scenarios.proofs.CallLemmas.{unchanged, as_step}
use Rattle.wi_scenarios.proofs.FillSteps.{fill_too_large, fill_leaves, fill_edited, copied_cells}
use Rattle.wi_scenarios.proofs.fill.fill.Goals as goal

pub returns-then-is_too_large-clause-edit : goal.returns-then-is_too_large-clause-edit
returns-then-is_too_large-clause-edit g c =
    let old = book_by g.C.Calculator.stored g.C.Calculator.evaluated g.C.Calculator.restarted c.args.calculator.now c.args.desk.now in
    unchanged _ old (fill_too_large old.state c.args.force c.args.from c.args.area c.is_placed.ensures c.is_spanned.ensures (sym c.is_too_large.ensures ∙ c.if-is_too_large.true))

pub returns-in_err-contents-clause-edit : goal.returns-in_err-contents-clause-edit
returns-in_err-contents-clause-edit g c =
    let old = book_by g.C.Calculator.stored g.C.Calculator.evaluated g.C.Calculator.restarted c.args.calculator.now c.args.desk.now in
    unchanged _ old
    (fill_leaves c.from_residual.result old.state c.args.force (option_copied c.content.result) c.args.from c.args.area c.in_err-contents.field-0.0
    c.is_placed.ensures c.is_spanned.ensures c.content.ensures (search rules) c.from_residual.ensures.1 c.in_err-contents.ensures)

pub returns-clause-edit : goal.returns-clause-edit
returns-clause-edit g c =
    let s = state_of (g.C.Calculator.stored c.args.calculator.now) c.args.desk.now in
    let content = option_copied c.content.result in
    let are = subst (AreCopies content c.args.from (cells_of c.args.area)) (sym c.deref_mut.ensures.value) c.in_ok-contents.ensures in
    as_step (copied_cells content c.args.from (cells_of c.args.area) c.deref_mut.result.now are)
    (fill_edited s (state_of (g.C.Calculator.stored c.edit_area.new.calculator) c.edit_area.new.desk) c.args.force content c.args.from c.args.area
    (c.args.area ∷ []) c.deref_mut.result.now c.is_placed.ensures c.is_spanned.ensures c.content.ensures are c.edit_area.result (search rules) refl)
    c.edit_area.ensures.edit
