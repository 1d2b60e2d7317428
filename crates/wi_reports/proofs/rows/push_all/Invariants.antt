use Rattle.wi_reports.proofs.Words.{◌≡◌, ◌≤◌, ◌+◌, ◌-◌, ◌++◌, StartsWith, flat_map, range_with_len, row_shown, cells_cases, rows_cases}
use Rattle.wi_reports.proofs.RowLemmas.{rows_from}
use Rattle.wi_reports.proofs.CostLemmas.{Leaves}
use Rattle.wi_reports.proofs.rows.push_all.Given as goal

-- the records before this row are written
abbrev pub invariant-loop-row : goal.invariant-loop-row
invariant-loop-row g l =
    let stored = g.C.Calculator.stored in
    record {
      within : l.row ≤ l.first + (l.row-end - l.first);
      same : stored l.calculator ≡ stored l.fn.calculator;
      written : l.out.items ≡ l.fn.out.items ++ flat_map (row_shown (stored l.fn.calculator).sheet l.fn.replacements l.fn.area) (range_with_len l.first (l.row - l.first));
      kept : StartsWith l.out.items l.fn.out.items;
      cost : Leaves (stored l.fn.calculator).sheet (cells_cases (stored l.fn.calculator).sheet l.fn.replacements (rows_from l.fn.area l.row (l.row-end - l.row))) (rows_cases (stored l.fn.calculator).sheet l.fn.replacements l.fn.area)
          (g.C.Calculator.evaluated l.fn.calculator, g.C.Calculator.restarted l.fn.calculator) (g.C.Calculator.evaluated l.calculator, g.C.Calculator.restarted l.calculator);
    }
