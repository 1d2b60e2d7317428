use Rattle.wi_reports.proofs.Words.{◌+◌, ◌-◌, ◌∙◌, ap, arith, common_steps, flat_map, starts_with_trans, column_of, cells_of_row, table_row, refl, starts_itself, beside_cases}
use Rattle.wi_reports.proofs.RowLemmas.{all_rows, rows_from, rows_are}
use Rattle.wi_reports.proofs.TableLemmas.{rows_more}
use Rattle.wi_reports.proofs.CostLemmas.{all_left, within_all, cell_asked, column_left}
use Rattle.wi_reports.proofs.table.push_rows.Goals as goal

pub loop-row-preserved : goal.loop-row-preserved
loop-row-preserved g c =
    let old = c.loop-row.invariant in
    let table = c.args.table.now in
    let first = c.row-first.result in
    let row = c.loop-row.row in
    let column = c.column-column.ensures.value ∙ ap column_of c.first.ensures in
    record {
      within = omega arith;
      same = c.in_ok-push_row.ensures.same ∙ old.same;
      written = rows_more c.args.replacements.now _ _ table.formula_cell table.input table.second table.column first (row - first) (row + 1 - first) row c.column-column.result c.at.result _ _ _ c.requires.column column (omega arith) (omega arith) c.at.ensures old.same old.written c.in_ok-push_row.ensures.ok;
      kept = starts_with_trans _ _ _ c.in_ok-push_row.ensures.kept old.kept;
      cost = cell_asked (λ s. beside_cases s.sheet c.args.replacements.now c.args.table.now.formula_cell c.args.table.now.input c.args.table.now.second) _ _ c.at.result (rows_from c.args.table.now.column (row + 1) ((c.row-row-end.result + 1) - (row + 1))) old.same (column_left c.args.table.now.column row (c.row-row-end.result + 1) c.column-column.result c.at.result c.requires.column (c.column-column.ensures.value ∙ ap column_of c.first.ensures) c.loop-row-test.true c.at.ensures) old.cost c.in_ok-push_row.ensures.cost;
    }

pub returns-clause-ok : goal.returns-clause-ok
returns-clause-ok g c =
    let table = c.args.table.now in
    let first = c.row-first.result in
    let record_of = table_row (g.C.Calculator.stored c.args.calculator.now).sheet c.args.replacements.now table.formula_cell table.input table.second in
    all_rows (λ rs. flat_map record_of (flat_map (λ r. cells_of_row r table.column) rs)) table.column _ first _ c.row-row-end.result (c.loop-row.row - first) _ _
    c.first-2.ensures c.row-first.ensures.value c.last.ensures c.row-row-end.ensures.value (omega arith) c.loop-row.invariant.written

pub loop-row-init : goal.loop-row-init
loop-row-init g c =
    let stored = g.C.Calculator.stored c.args.calculator.now in
    let table = c.args.table.now in
    let first = c.row-first.result in
    record {
      within = omega arith;
      same = refl;
      written = grind (arith, common_steps);
      kept = starts_itself _;
      cost = all_left stored.sheet _ (ap (flat_map (beside_cases stored.sheet c.args.replacements.now table.formula_cell table.input table.second))
          (rows_are table.column _ first _ c.row-row-end.result _ c.first-2.ensures c.row-first.ensures.value c.last.ensures c.row-row-end.ensures.value (omega arith)));
    }

pub push_row-requires-clause-order : goal.push_row-requires-clause-order
push_row-requires-clause-order g c = c.requires.order

pub returns-in_err-push_row-clause-kept : goal.returns-in_err-push_row-clause-kept
returns-in_err-push_row-clause-kept g c = starts_with_trans _ _ _ c.in_err-push_row.ensures.kept c.loop-row.invariant.kept

pub returns-clause-cost : goal.returns-clause-cost
returns-clause-cost g c = within_all c.loop-row.invariant.cost

pub returns-in_err-push_row-clause-cost : goal.returns-in_err-push_row-clause-cost
returns-in_err-push_row-clause-cost g c =
    let row = c.loop-row.row in
    within_all (cell_asked (λ s. beside_cases s.sheet c.args.replacements.now c.args.table.now.formula_cell c.args.table.now.input c.args.table.now.second) _ _ c.at.result (rows_from c.args.table.now.column (row + 1) ((c.row-row-end.result + 1) - (row + 1))) c.loop-row.invariant.same
    (column_left c.args.table.now.column row (c.row-row-end.result + 1) c.column-column.result c.at.result c.requires.column (c.column-column.ensures.value ∙ ap column_of c.first.ensures) c.loop-row-test.true c.at.ensures) c.loop-row.invariant.cost c.in_err-push_row.ensures.cost)
