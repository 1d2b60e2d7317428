use Rattle.wi_reports.proofs.Words.{◌+◌, ◌-◌, ◌∙◌, arith, common_steps, starts_with_trans, cell_compared, refl, ap, flat_map, starts_itself, both_cases}
use Rattle.wi_reports.proofs.CompareLemmas.{one_cell, all_cells}
use Rattle.wi_reports.proofs.RowLemmas.{cells_in, row_is}
use Rattle.wi_reports.proofs.CostLemmas.{all_left, within_all, cell_asked, row_left}
use Rattle.wi_reports.proofs.compare.push_row.Goals as goal

pub loop-column-preserved : goal.loop-column-preserved
loop-column-preserved g c =
    let old = c.loop-column.invariant in
    let left = c.column-left.result in
    let column = c.loop-column.column in
    record {
      within = omega arith;
      same = c.in_ok-push_cell.ensures.same ∙ old.same;
      written = one_cell (λ s. cell_compared s.sheet c.args.sides.now.first.now c.args.sides.now.second.now) _ _ c.args.row left (column - left) (column + 1 - left) column c.at-at.result _ _ _ (omega arith) (omega arith) old.same c.at-at.ensures old.written c.in_ok-push_cell.ensures.ok;
      kept = starts_with_trans _ _ _ c.in_ok-push_cell.ensures.kept old.kept;
      cost = cell_asked (λ s. both_cases s.sheet c.args.sides.now.first.now c.args.sides.now.second.now) _ _ c.at-at.result (cells_in c.args.row (column + 1) ((c.column-column-end.result + 1) - (column + 1))) old.same (row_left c.args.row column (c.column-column-end.result + 1) c.at-at.result c.loop-column-test.true c.at-at.ensures) old.cost c.in_ok-push_cell.ensures.cost;
    }

pub returns-clause-ok : goal.returns-clause-ok
returns-clause-ok g c =
    let left = c.column-left.result in
    let last = c.column-column-end.result in
    all_cells (cell_compared (g.C.Calculator.stored c.args.calculator.now).sheet c.args.sides.now.first.now c.args.sides.now.second.now) c.args.area c.args.row _ left _ last (c.loop-column.column - left) _ _
    c.first.ensures c.column-left.ensures.value c.last.ensures c.column-column-end.ensures.value (omega arith) c.loop-column.invariant.written

pub loop-column-init : goal.loop-column-init
loop-column-init g c =
    let stored = g.C.Calculator.stored c.args.calculator.now in
    let first = c.column-left.result in
    record {
      within = omega arith;
      same = refl;
      written = grind (arith, common_steps);
      kept = starts_itself _;
      cost = all_left stored.sheet _ (ap (flat_map (both_cases stored.sheet c.args.sides.now.first.now c.args.sides.now.second.now))
          (row_is c.args.area c.args.row _ first _ c.column-column-end.result _ c.first.ensures c.column-left.ensures.value c.last.ensures c.column-column-end.ensures.value (omega arith)));
    }

pub push_cell-requires : goal.push_cell-requires
push_cell-requires g c = c.requires.order

pub returns-in_err-push_cell-clause-kept : goal.returns-in_err-push_cell-clause-kept
returns-in_err-push_cell-clause-kept g c = starts_with_trans _ _ _ c.in_err-push_cell.ensures.kept c.loop-column.invariant.kept

pub returns-clause-cost : goal.returns-clause-cost
returns-clause-cost g c = within_all c.loop-column.invariant.cost

pub returns-in_err-push_cell-clause-cost : goal.returns-in_err-push_cell-clause-cost
returns-in_err-push_cell-clause-cost g c =
    let column = c.loop-column.column in
    within_all (cell_asked (λ s. both_cases s.sheet c.args.sides.now.first.now c.args.sides.now.second.now) _ _ c.at-at.result (cells_in c.args.row (column + 1) ((c.column-column-end.result + 1) - (column + 1))) c.loop-column.invariant.same
    (row_left c.args.row column (c.column-column-end.result + 1) c.at-at.result c.loop-column-test.true c.at-at.ensures) c.loop-column.invariant.cost c.in_err-push_cell.ensures.cost)
