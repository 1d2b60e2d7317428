use Rattle.wi_edit_log.proofs.Words.{◌∙◌, List, ap, sym, subst, arith, rules, common_steps, err_from_is_err_and, IfOk-from_err, entries_in, IsKept, Edit}
use Rattle.wi_edit_log.proofs.Notes.{noted_before_more}
use Rattle.wi_edit_log.proofs.Runs.{runs_of_more}
use Rattle.wi_edit_log.proofs.edit_log.EditLog.add_named.Goals as goal

pub invariant_of-self : goal.invariant_of-self
invariant_of-self c =
    subst (λ (es : List Edit). IsKept es c.self.inside.noted.narrow.items c.self.inside.noted.notes.entries) (sym c.in_err-push_edit.ensures.err) c.self.invariant

pub invariant_of-self-2 : goal.invariant_of-self-2
invariant_of-self-2 c =
    let old = c.self.inside.edits.items in
    let edit = c.after-edit.result in
    subst (λ (es : List Edit). IsKept es c.self.inside.noted.narrow.items c.self.inside.noted.notes.entries) (search rules) (record {
      runs = runs_of_more old edit c.self.invariant.runs (search rules);
      noted = noted_before_more old c.self.inside.noted.narrow.items c.self.inside.noted.notes.entries edit c.self.invariant.noted;
    })

pub returns-in_err-push_edit-clause-ok : goal.returns-in_err-push_edit-clause-ok
returns-in_err-push_edit-clause-ok c = IfOk-from_err c.from_residual.result _ c.from_residual.ensures.0

pub returns-in_err-push_edit-clause-err : goal.returns-in_err-push_edit-clause-err
returns-in_err-push_edit-clause-err c =
    let p = err_from_is_err_and c.from_residual.result c.from_residual.ensures.1 in
    rw p.1 (ap entries_in c.in_err-push_edit.ensures.err ∙ c.self.view_is)

pub returns-clause-ok : goal.returns-clause-ok
returns-clause-ok c = grind (arith, common_steps)
