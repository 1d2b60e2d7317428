use Rattle.wi_scenarios.proofs.Words.{◌+◌, ◌-◌, ℕ, List, sym, subst, arith, option_copied, AreCopies, HasNoCopies, rows_from, rows_are, one_row}
use Rattle.wi_scenarios.proofs.CallLemmas.{at_error}
use Rattle.wi_scenarios.proofs.FillSteps.{no_copy_in_rows}
use Rattle.wi_scenarios.proofs.fill.copies.Goals as goal

pub returns-in_err-push_copies : goal.returns-in_err-push_copies
returns-in_err-push_copies c =
    let content = option_copied c.args.content in
    let first = c.row-first.result in
    let end = c.row-row-end.result + 1 in
    let fault = c.in_err-push_copies.field-0.0 in
    at_error _ _ fault c.from_residual.result c.from_residual.ensures.1
    (subst (λ cells. HasNoCopies content c.args.from cells fault) (rows_are c.args.area _ first _ c.row-row-end.result (end - first) c.first.ensures c.row-first.ensures.value c.last.ensures c.row-row-end.ensures.value (omega arith))
    (no_copy_in_rows content c.args.from c.args.area first (end - first) c.loop-row.row fault (omega arith) (omega arith) c.in_err-push_copies.ensures))

pub loop-row-preserved : goal.loop-row-preserved
loop-row-preserved c =
    let content = option_copied c.args.content in
    let first = c.row-first.result in
    let row = c.loop-row.row in
    record {
      within = omega arith;
      copied = subst (λ cells. AreCopies content c.args.from cells c.push_copies.new.changes.items) (sym (one_row c.args.area first (row - first) (row + 1 - first) row (omega arith) (omega arith)))
          (c.in_ok-push_copies.ensures (rows_from c.args.area first (row - first)) c.loop-row.invariant.copied);
    }

pub returns : goal.returns
returns c =
    let content = option_copied c.args.content in
    let first = c.row-first.result in
    subst (λ (cells : List ℕ). AreCopies content c.args.from cells c.loop-row.changes.items)
    (rows_are c.args.area _ first _ c.row-row-end.result (c.loop-row.row - first) c.first.ensures c.row-first.ensures.value c.last.ensures c.row-row-end.ensures.value (omega arith))
    c.loop-row.invariant.copied
