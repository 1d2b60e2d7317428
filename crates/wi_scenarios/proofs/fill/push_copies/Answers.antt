use Rattle.wi_scenarios.proofs.Words.{◌+◌, ◌-◌, ℕ, List, ◌++◌, subst, arith, option_copied, AreCopies, HasNoCopies, row_is}
use Rattle.wi_scenarios.proofs.CallLemmas.{at_error}
use Rattle.wi_scenarios.proofs.FillSteps.{one_cell, no_copy_in_row}
use Rattle.wi_scenarios.proofs.fill.push_copies.Goals as goal

pub returns-in_err-copy : goal.returns-in_err-copy
returns-in_err-copy c =
    let content = option_copied c.args.content in
    let first = c.column-first.result in
    let end = c.column-column-end.result + 1 in
    let fault = c.in_err-copy.field-0.0 in
    at_error _ _ fault c.from_residual.result c.from_residual.ensures.1
    (subst (λ cells. HasNoCopies content c.args.from cells fault) (row_is c.args.area c.args.row _ first _ c.column-column-end.result (end - first) c.first.ensures c.column-first.ensures.value c.last.ensures c.column-column-end.ensures.value (omega arith))
    (no_copy_in_row content c.args.from c.args.row first (end - first) c.loop-column.column c.at-to.result fault (omega arith) (omega arith) c.at-to.ensures c.in_err-copy.ensures))

pub loop-column-preserved : goal.loop-column-preserved
loop-column-preserved c =
    let content = option_copied c.args.content in
    let first = c.column-first.result in
    let column = c.loop-column.column in
    let copied = c.in_ok-copy.ensures in
    record {
      within = omega arith;
      copied = λ cells h. one_cell content c.args.from c.args.row first (column - first) (column + 1 - first) column c.at-to.result cells c.loop-column.changes.items c.push.new.self.items c.in_ok-copy.copy
          (omega arith) (omega arith) c.at-to.ensures (search (copied)) c.in_ok-push.ensures.items (c.loop-column.invariant.copied cells h);
    }

pub returns : goal.returns
returns c =
    let content = option_copied c.args.content in
    let first = c.column-first.result in
    let column = c.loop-column.column in
    λ cells h. subst (λ (row : List ℕ). AreCopies content c.args.from (cells ++ row) c.loop-column.changes.items)
    (row_is c.args.area c.args.row _ first _ c.column-column-end.result (column - first) c.first.ensures c.column-first.ensures.value c.last.ensures c.column-column-end.ensures.value (omega arith))
    (c.loop-column.invariant.copied cells h)
