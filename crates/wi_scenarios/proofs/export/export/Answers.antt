use Rattle.wi_scenarios.proofs.Words.{◌∙◌, ◌++◌, true, false, List, refl, sym, ap, book_by, state_of, export_of, rows_shown, shown, asked_same, nothing_asked, rows_cases, Replacement}
use Rattle.wi_scenarios.proofs.CallLemmas.{look_refused, look_lacked, look_done}
use Rattle.wi_scenarios.proofs.LookSteps.{export_of_area}
use Rattle.wi_scenarios.proofs.export.export.Goals as goal

pub returns-then-is_too_large-clause-looks : goal.returns-then-is_too_large-clause-looks
returns-then-is_too_large-clause-looks g c =
    let old = book_by g.C.Calculator.stored g.C.Calculator.evaluated g.C.Calculator.restarted c.args.calculator.now c.args.desk.now in
    look_refused _ old c.args.out.now.items (export_of_area old.state c.args.area c.is_spanned.ensures true (sym c.is_too_large.ensures ∙ c.if-is_too_large.true), refl, refl)

pub returns-in_err-put-clause-looks : goal.returns-in_err-put-clause-looks
returns-in_err-put-clause-looks g c =
    let old = book_by g.C.Calculator.stored g.C.Calculator.evaluated g.C.Calculator.restarted c.args.calculator.now c.args.desk.now in
    look_lacked _ c.from_residual.result old old c.args.out.now.items c.args.out.now.items (export_of_area old.state c.args.area c.is_spanned.ensures false (sym c.is_too_large.ensures ∙ c.if-is_too_large.false)) c.from_residual.ensures.1 refl refl refl (nothing_asked _ _ _)

pub returns-in_err-push_export-clause-looks : goal.returns-in_err-push_export-clause-looks
returns-in_err-push_export-clause-looks g c =
    let old = book_by g.C.Calculator.stored g.C.Calculator.evaluated g.C.Calculator.restarted c.args.calculator.now c.args.desk.now in
    look_lacked _ c.from_residual-in_err-push_export.result old _ _ _ (export_of_area old.state c.args.area c.is_spanned.ensures false (sym c.is_too_large.ensures ∙ c.if-is_too_large.false))
    c.from_residual-in_err-push_export.ensures.1 (ap (λ x. state_of x c.args.desk.now) c.in_err-push_export.ensures.same) refl c.in_err-push_export.ensures.err
    (asked_same (ap (λ (rs : List Replacement). rows_cases old.state.stored.sheet rs c.args.area) (c.deref.ensures.value ∙ c.in_ok-put.ensures.value)) c.in_err-push_export.ensures.cost)

pub returns-clause-looks : goal.returns-clause-looks
returns-clause-looks g c =
    let old = book_by g.C.Calculator.stored g.C.Calculator.evaluated g.C.Calculator.restarted c.args.calculator.now c.args.desk.now in
    look_done old _ _ _ _ (export_of_area old.state c.args.area c.is_spanned.ensures false (sym c.is_too_large.ensures ∙ c.if-is_too_large.false))
    (c.in_ok-push_export.ensures.ok ∙ ap (λ (rs : List Replacement). c.args.out.now.items ++ export_of (rows_shown (shown old.state.stored.sheet rs) c.args.area)) (c.deref.ensures.value ∙ c.in_ok-put.ensures.value))
    (ap (λ x. state_of x c.args.desk.now) c.in_ok-push_export.ensures.same) refl
    (asked_same (ap (λ (rs : List Replacement). rows_cases old.state.stored.sheet rs c.args.area) (c.deref.ensures.value ∙ c.in_ok-put.ensures.value)) c.in_ok-push_export.ensures.cost)
