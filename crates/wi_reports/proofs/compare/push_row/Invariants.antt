use Rattle.wi_reports.proofs.Words.{◌≡◌, ◌≤◌, ◌+◌, ◌-◌, ◌++◌, StartsWith, flat_map, cell_compared, both_cases, cells_of_row}
use Rattle.wi_reports.proofs.RowLemmas.{cells_in}
use Rattle.wi_reports.proofs.CostLemmas.{Leaves}
use Rattle.wi_reports.proofs.compare.push_row.Given as goal

-- the records before this column are written
abbrev pub invariant-loop-column : goal.invariant-loop-column
invariant-loop-column g l =
    let stored = g.C.Calculator.stored in
    record {
      within : l.column ≤ l.left + (l.column-end - l.left);
      same : stored l.calculator ≡ stored l.fn.calculator;
      written : l.out.items ≡ l.fn.out.items ++ flat_map (cell_compared (stored l.fn.calculator).sheet l.fn.sides.first.now l.fn.sides.second.now) (cells_in l.row l.left (l.column - l.left));
      kept : StartsWith l.out.items l.fn.out.items;
      cost : Leaves (stored l.fn.calculator).sheet (flat_map (both_cases (stored l.fn.calculator).sheet l.fn.sides.first.now l.fn.sides.second.now) (cells_in l.row l.column (l.column-end - l.column))) (flat_map (both_cases (stored l.fn.calculator).sheet l.fn.sides.first.now l.fn.sides.second.now) (cells_of_row l.fn.row l.fn.area))
          (g.C.Calculator.evaluated l.fn.calculator, g.C.Calculator.restarted l.fn.calculator) (g.C.Calculator.evaluated l.calculator, g.C.Calculator.restarted l.calculator);
    }
