use Rattle.wi_reports.proofs.Words.{◌+◌, ◌-◌, ◌∙◌, arith, common_steps, flat_map, starts_with_trans, row_shown, refl, ap, starts_itself, cells_of_row, demanded, cells_cases}
use Rattle.wi_reports.proofs.RowLemmas.{rows_more, all_rows, rows_from, rows_are}
use Rattle.wi_reports.proofs.CostLemmas.{all_left, within_all, cells_asked, rows_left}
use Rattle.wi_reports.proofs.rows.push_all.Goals as goal

pub loop-row-preserved : goal.loop-row-preserved
loop-row-preserved g c =
    let old = c.loop-row.invariant in
    let first = c.row-first.result in
    let row = c.loop-row.row in
    record {
      within = omega arith;
      same = c.in_ok-push_row.ensures.same ∙ old.same;
      written = rows_more c.args.replacements.now _ _ c.args.area first (row - first) (row + 1 - first) row _ _ _ (omega arith) (omega arith) old.same old.written c.in_ok-push_row.ensures.ok;
      kept = starts_with_trans _ _ _ c.in_ok-push_row.ensures.kept old.kept;
      cost = cells_asked (λ s. demanded s.sheet c.args.replacements.now) _ _ (cells_of_row row c.args.area) (rows_from c.args.area (row + 1) ((c.row-row-end.result + 1) - (row + 1))) old.same (rows_left c.args.area row (c.row-row-end.result + 1) c.loop-row-test.true) old.cost c.in_ok-push_row.ensures.cost;
    }

pub returns-clause-ok : goal.returns-clause-ok
returns-clause-ok g c =
    let first = c.row-first.result in
    all_rows (flat_map (row_shown (g.C.Calculator.stored c.args.calculator.now).sheet c.args.replacements.now c.args.area)) c.args.area _ first _ c.row-row-end.result (c.loop-row.row - first) _ _
    c.first.ensures c.row-first.ensures.value c.last.ensures c.row-row-end.ensures.value (omega arith) c.loop-row.invariant.written

pub loop-row-init : goal.loop-row-init
loop-row-init g c =
    let stored = g.C.Calculator.stored c.args.calculator.now in
    let first = c.row-first.result in
    record {
      within = omega arith;
      same = refl;
      written = grind (arith, common_steps);
      kept = starts_itself _;
      cost = all_left stored.sheet _ (ap (cells_cases stored.sheet c.args.replacements.now)
          (rows_are c.args.area _ first _ c.row-row-end.result _ c.first.ensures c.row-first.ensures.value c.last.ensures c.row-row-end.ensures.value (omega arith)));
    }

pub push_row-requires-clause-order : goal.push_row-requires-clause-order
push_row-requires-clause-order g c = c.requires

pub returns-in_err-push_row-clause-kept : goal.returns-in_err-push_row-clause-kept
returns-in_err-push_row-clause-kept g c = starts_with_trans _ _ _ c.in_err-push_row.ensures.kept c.loop-row.invariant.kept

pub returns-clause-cost : goal.returns-clause-cost
returns-clause-cost g c = within_all c.loop-row.invariant.cost

pub returns-in_err-push_row-clause-cost : goal.returns-in_err-push_row-clause-cost
returns-in_err-push_row-clause-cost g c =
    let row = c.loop-row.row in
    within_all (cells_asked (λ s. demanded s.sheet c.args.replacements.now) _ _ (cells_of_row row c.args.area) (rows_from c.args.area (row + 1) ((c.row-row-end.result + 1) - (row + 1))) c.loop-row.invariant.same
    (rows_left c.args.area row (c.row-row-end.result + 1) c.loop-row-test.true) c.loop-row.invariant.cost c.in_err-push_row.ensures.cost)
