use Rattle.wi_reports.proofs.Words.{◌≡◌, ◌≤◌, ◌+◌, ◌-◌, ◌++◌, StartsWith, flat_map, cell_compared, both_cases, cells_of}
use Rattle.wi_reports.proofs.RowLemmas.{rows_from}
use Rattle.wi_reports.proofs.CostLemmas.{Leaves}
use Rattle.wi_reports.proofs.compare.push_all.Given as goal

-- the records before this row are written
abbrev pub invariant-loop-row : goal.invariant-loop-row
invariant-loop-row g l =
    let stored = g.C.Calculator.stored in
    record {
      within : l.row ≤ l.top + (l.row-end - l.top);
      same : stored l.calculator ≡ stored l.fn.calculator;
      written : l.out.items ≡ l.fn.out.items ++ flat_map (cell_compared (stored l.fn.calculator).sheet l.fn.sides.first.now l.fn.sides.second.now) (rows_from l.area l.top (l.row - l.top));
      kept : StartsWith l.out.items l.fn.out.items;
      cost : Leaves (stored l.fn.calculator).sheet (flat_map (both_cases (stored l.fn.calculator).sheet l.fn.sides.first.now l.fn.sides.second.now) (rows_from l.fn.area l.row (l.row-end - l.row))) (flat_map (both_cases (stored l.fn.calculator).sheet l.fn.sides.first.now l.fn.sides.second.now) (cells_of l.fn.area))
          (g.C.Calculator.evaluated l.fn.calculator, g.C.Calculator.restarted l.fn.calculator) (g.C.Calculator.evaluated l.calculator, g.C.Calculator.restarted l.calculator);
    }
