use Rattle.wi_reports.proofs.Words.{◌≡◌, ◌≤◌, ◌+◌, ◌-◌, ◌++◌, StartsWith, flat_map, table_row, cells_of, beside_cases}
use Rattle.wi_reports.proofs.RowLemmas.{rows_from}
use Rattle.wi_reports.proofs.CostLemmas.{Leaves}
use Rattle.wi_reports.proofs.table.push_rows.Given as goal

-- the records before this row are written
abbrev pub invariant-loop-row : goal.invariant-loop-row
invariant-loop-row g l =
    let stored = g.C.Calculator.stored in
    let table = l.fn.table in
    record {
      within : l.row ≤ l.first + (l.row-end - l.first);
      same : stored l.calculator ≡ stored l.fn.calculator;
      written : l.out.items ≡ l.fn.out.items ++ flat_map (table_row (stored l.fn.calculator).sheet l.fn.replacements table.formula_cell table.input table.second) (rows_from table.column l.first (l.row - l.first));
      kept : StartsWith l.out.items l.fn.out.items;
      cost : Leaves (stored l.fn.calculator).sheet (flat_map (beside_cases (stored l.fn.calculator).sheet l.fn.replacements table.formula_cell table.input table.second) (rows_from table.column l.row (l.row-end - l.row)))
          (flat_map (beside_cases (stored l.fn.calculator).sheet l.fn.replacements table.formula_cell table.input table.second) (cells_of table.column))
          (g.C.Calculator.evaluated l.fn.calculator, g.C.Calculator.restarted l.fn.calculator) (g.C.Calculator.evaluated l.calculator, g.C.Calculator.restarted l.calculator);
    }
